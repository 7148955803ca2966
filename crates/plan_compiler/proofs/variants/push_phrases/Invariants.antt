-- What was added, with the phrases that are left, is all.
use Rattle.std.proofs.Common.{◌≡◌, ◌++◌, map}
use Rattle.all_matches.specs.Variants as the
use Rattle.match_options.specs.Items.{item}
use Rattle.plan_compiler.proofs.variants.push_phrases.Given as goal

abbrev pub invariant-loop-phrase : goal.invariant-loop-phrase
invariant-loop-phrase l = map (map item) l.phrases ++ map (map the.word) l.phrase-iterator ≡ map (map item) l.fn.phrases ++ map (map the.word) l.fn.reached.keys
