-- The tests of the first items.
use Rattle.std.proofs.Common.{◌≡◌, map, take}
use Rattle.match_options.specs.Items.{item}
use Rattle.plan_compiler.specs.ItemTests.{asks_nothing, passes}
use Rattle.plan_compiler.specs.WordsMeaning as spec
use Rattle.plan_compiler.proofs.phrase_plan.phrase_tests.Given as goal

abbrev pub invariant-loop-item : goal.invariant-loop-item
invariant-loop-item l = record {
  passes : map passes l.tests ≡ map (spec.item_test l.reading) (map item (take l.item-index l.phrase));
  asks : map asks_nothing l.tests ≡ map (spec.reads_any l.reading) (map item (take l.item-index l.phrase));
}
