-- The terms of the first words are there.
use Rattle.std.proofs.Common.{◌≡◌, map, take}
use Rattle.plan_runs.specs.steps.Skips.{needed_item}
use Rattle.plan_runs.proofs.opening_needs.needed_items.Given as goal

abbrev pub invariant-loop-test : goal.invariant-loop-test
invariant-loop-test l = l.terms.items ≡ map (needed_item l.opening.looks l.opening.lists.now.stems l.opening.version.now) (take l.test-index l.tests)
