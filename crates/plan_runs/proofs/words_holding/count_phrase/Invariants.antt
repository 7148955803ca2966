-- The sum of the first groups.
use Rattle.std.proofs.Common.{◌≡◌, ◌≤◌, ◌+◌, map, min, sum, take}
use Rattle.std.specs.List.{sum_by}
use Rattle.plan_runs.specs.steps.RunCosts.{group_cost, moves_for}
use Rattle.plan_runs.specs.steps.RunShapes.{group_shape}
use Rattle.plan_runs.specs.steps.RunTruth.{group_count}
use Rattle.plan_runs.specs.steps.AskedPlaces.{text_at}
use Rattle.plan_runs.proofs.words_holding.count_phrase.Given as goal

abbrev pub invariant-loop-number : goal.invariant-loop-number
invariant-loop-number g l = record {
  same : map group_shape l.phrase.groups.items ≡ map group_shape l.fn.phrase.groups.items;
  count : l.total ≡ min (sum (map (λ group. group_count l.place.version.now group (text_at l.place)) (take l.number (map group_shape l.fn.phrase.groups.items)))) l.most;
  price : l.moves ≤ l.fn.moves + sum_by (group_cost (moves_for l.place)) (take l.number (map group_shape l.fn.phrase.groups.items));
  grown : l.fn.moves ≤ l.moves;
}
