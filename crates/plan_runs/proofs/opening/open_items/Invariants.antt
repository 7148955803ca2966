-- The first items were opened.
use Rattle.std.proofs.Common.{◌≡◌, map, take}
use Rattle.plan_runs.specs.steps.OpenedItems.{opened_item}
use Rattle.plan_runs.proofs.opening.open_items.Given as goal

abbrev pub invariant-loop-test : goal.invariant-loop-test
invariant-loop-test l = l.terms.items ≡ map (opened_item l.opening.looks l.opening.lists.now.stems l.opening.version.now) (take l.test-index l.tests)
