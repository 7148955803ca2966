-- The parts so far don't settle it.
use Rattle.std.proofs.Common.{◌≡◌, ◌≤◌, ◌+◌, ◌*◌, drop, map, take, true}
use Rattle.std.specs.List.{sum_by}
use Rattle.plan_runs.specs.steps.CheapShapes.{are_cheap_shapes}
use Rattle.plan_runs.specs.steps.RunCosts.{moves_for, run_cost}
use Rattle.plan_runs.specs.steps.RunShapes.{shape, shapes_of}
use Rattle.plan_runs.specs.steps.RunTruth.{all_true, some_true}
use Rattle.plan_runs.specs.steps.AskedPlaces.{asked_at}
use Rattle.plan_runs.proofs.TreeLemmas.{weight, weights}
use Rattle.plan_runs.proofs.holding.+holding.Given as goal

abbrev pub decreases-node_holds : goal.decreases-node_holds
decreases-node_holds g l = 2 * weight (shape l.node.now)

abbrev pub decreases-part_holds : goal.decreases-part_holds
decreases-part_holds g l = 2 * weight (shape l.part.now.value) + 1

abbrev pub decreases-some_holds : goal.decreases-some_holds
decreases-some_holds g l = 2 * weights (shapes_of (map shape l.parts.now.items)) + 1

abbrev pub decreases-all_hold : goal.decreases-all_hold
decreases-all_hold g l = 2 * weights (shapes_of (map shape l.parts.now.items)) + 1

abbrev pub invariant-some_holds-loop-number : goal.invariant-some_holds-loop-number
invariant-some_holds-loop-number g l = record {
  same : map shape l.parts.items ≡ map shape l.fn.parts.items;
  says : some_true l.place.version.now (shapes_of (drop l.number (map shape l.fn.parts.items))) (asked_at l.place)
      ≡ some_true l.place.version.now (shapes_of (map shape l.fn.parts.items)) (asked_at l.place);
  price : are_cheap_shapes true (shapes_of (map shape l.fn.parts.items)) ≡ true
      → l.moves ≤ l.fn.moves + sum_by (run_cost (moves_for l.place) 2) (take l.number (map shape l.fn.parts.items));
  grown : l.fn.moves ≤ l.moves;
}

abbrev pub invariant-all_hold-loop-number : goal.invariant-all_hold-loop-number
invariant-all_hold-loop-number g l = record {
  same : map shape l.parts.items ≡ map shape l.fn.parts.items;
  says : all_true l.place.version.now (shapes_of (drop l.number (map shape l.fn.parts.items))) (asked_at l.place)
      ≡ all_true l.place.version.now (shapes_of (map shape l.fn.parts.items)) (asked_at l.place);
  price : are_cheap_shapes true (shapes_of (map shape l.fn.parts.items)) ≡ true
      → l.moves ≤ l.fn.moves + sum_by (run_cost (moves_for l.place) 2) (take l.number (map shape l.fn.parts.items));
  grown : l.fn.moves ≤ l.moves;
}
