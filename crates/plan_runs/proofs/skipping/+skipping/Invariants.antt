-- The first or the last of those so far and of those that are left is that of all; a step was counted for each term of those so far.
use Rattle.std.proofs.Common.{◌≡◌, ◌≤◌, ◌+◌, true, drop, fold, map, take, Some}
use Rattle.std.specs.List.{sum_by}
use Rattle.index_versions.specs.FirstPlaces.{soonest, sooner}
use Rattle.plan_runs.specs.steps.CheapShapes.{are_cheap_shapes}
use Rattle.plan_runs.specs.steps.RunCosts.{run_cost, term_count}
use Rattle.plan_runs.specs.steps.RunShapes.{shape, shapes_of}
use Rattle.plan_runs.specs.steps.RunSkips.{skip}
use Rattle.plan_runs.specs.steps.Skips.{later, latest}
use Rattle.plan_runs.proofs.skipping.+skipping.Given as goal

abbrev pub invariant-first_skip-loop-node : goal.invariant-first_skip-loop-node
invariant-first_skip-loop-node g l = record {
  skip : fold sooner l.first (map (λ node. skip l.doc.0 l.part (shape node)) (drop l.node-index l.nodes.items))
      ≡ soonest (map (λ node. skip l.doc.0 l.part (shape node)) l.nodes.items);
  price : are_cheap_shapes true (shapes_of (map shape l.nodes.items)) ≡ true → l.moves ≤ l.fn.moves + sum_by (run_cost term_count 1) (take l.node-index (map shape l.nodes.items));
  grown : l.fn.moves ≤ l.moves;
}

abbrev pub invariant-last_skip-loop-node : goal.invariant-last_skip-loop-node
invariant-last_skip-loop-node g l = record {
  skip : fold later (Some l.last) (map (λ node. skip l.doc.0 l.part (shape node)) (drop l.node-index l.nodes.items))
      ≡ latest (map (λ node. skip l.doc.0 l.part (shape node)) l.nodes.items);
  price : are_cheap_shapes true (shapes_of (map shape l.nodes.items)) ≡ true → l.moves ≤ l.fn.moves + sum_by (run_cost term_count 1) (take l.node-index (map shape l.nodes.items));
  grown : l.fn.moves ≤ l.moves;
}
