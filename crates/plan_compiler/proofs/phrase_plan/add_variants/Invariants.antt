-- The tests of the first phrases.
use Rattle.std.proofs.Common.{◌≡◌, map, take}
use Rattle.match_options.specs.Items.{item}
use Rattle.all_matches.specs.Counting.{by_length}
use Rattle.plan_compiler.specs.GroupedTests.{group_tests}
use Rattle.plan_compiler.specs.WordsMeaning as spec
use Rattle.plan_compiler.proofs.phrase_plan.add_variants.Given as goal

abbrev pub invariant-loop-phrase : goal.invariant-loop-phrase
invariant-loop-phrase l = map group_tests l.groups.entries ≡ by_length (map (map (spec.item_test l.reading)) (map (map item) (take l.phrase-index l.phrases)))
