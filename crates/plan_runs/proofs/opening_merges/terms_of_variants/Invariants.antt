-- The terms of the first variants are there.
use Rattle.std.proofs.Common.{◌≡◌, flat_map, take}
use Rattle.plan_runs.specs.steps.Merges.{test_terms}
use Rattle.plan_runs.proofs.opening_merges.terms_of_variants.Given as goal

abbrev pub invariant-loop-tests : goal.invariant-loop-tests
invariant-loop-tests l = l.terms ≡ flat_map (flat_map (test_terms l.opening.looks l.opening.lists.now.stems l.opening.version.now)) (take l.tests-index l.variants)
