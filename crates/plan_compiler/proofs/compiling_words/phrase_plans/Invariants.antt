-- The plans of the first phrases.
use Rattle.std.proofs.Common.{◌≡◌, map, take}
use Rattle.match_options.specs.Items.{item}
use Rattle.plan_compiler.specs.WordsMeaning.{grouped_tests, plan_tests}
use Rattle.plan_compiler.proofs.compiling_words.phrase_plans.Given as goal

abbrev pub invariant-loop-phrase : goal.invariant-loop-phrase
invariant-loop-phrase l = map plan_tests l.plans ≡ map (grouped_tests l.reading) (map (map item) (take l.phrase-index l.phrases))
