-- The first items, each as a phrase.
use Rattle.std.proofs.Common.{◌≡◌, map}
use Rattle.all_matches.specs.Meaning.{singly}
use Rattle.match_options.specs.Items.{item}
use Rattle.plan_compiler.proofs.compiling_words.each_word.Given as goal

abbrev pub invariant-loop-item : goal.invariant-loop-item
invariant-loop-item l = map (map item) l.phrases ≡ singly (map item l.yielded)
