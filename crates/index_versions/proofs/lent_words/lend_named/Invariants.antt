-- The words of the ids so far and those of the ids that are left are all.
use Rattle.std.proofs.Common.{◌≡◌, ◌++◌, drop, map}
use Rattle.index_versions.specs.steps.Held.{word_of}
use Rattle.index_versions.proofs.lent_words.lend_named.Given as goal

abbrev pub invariant-loop-id : goal.invariant-loop-id
invariant-loop-id l =
    map (λ word. word.now) l.words.items ++ map (word_of l.dictionary.given) (drop l.id-index l.ids)
    ≡ map (λ word. word.now) l.fn.words.items ++ map (word_of l.dictionary.given) l.ids
