-- The terms of the first words are there.
use Rattle.std.proofs.Common.{◌≡◌, ◌++◌, flat_map, take}
use Rattle.plan_runs.specs.steps.Merges.{test_terms}
use Rattle.plan_runs.proofs.opening_merges.push_variant.Given as goal

abbrev pub invariant-loop-test : goal.invariant-loop-test
invariant-loop-test l = l.terms ≡ l.fn.terms ++ flat_map (test_terms l.opening.looks l.opening.lists.now.stems l.opening.version.now) (take l.test-index l.tests)
