-- The first keys, as words.
use Rattle.std.proofs.Common.{◌≡◌, map, take}
use Rattle.all_matches.specs.Variants as the
use Rattle.match_options.specs.Items.{item}
use Rattle.plan_compiler.proofs.variants.words_of_keys.Given as goal

abbrev pub invariant-loop-number : goal.invariant-loop-number
invariant-loop-number l = map item l.items ≡ map the.word (take l.number l.keys)
