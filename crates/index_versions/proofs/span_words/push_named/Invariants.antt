-- The words of the ids up to the next one are put.
use Rattle.std.proofs.Common.{◌≡◌, ◌++◌, map, take}
use Rattle.index_versions.specs.steps.Held.{word_of}
use Rattle.index_versions.proofs.span_words.push_named.Given as goal

abbrev pub invariant-loop-id : goal.invariant-loop-id
invariant-loop-id l = l.words ≡ l.fn.words ++ map (word_of l.dictionary.given) (take l.id-index l.ids.items)
