-- The sum of the first phrases.
use Rattle.std.proofs.Common.{◌≡◌, ◌≤◌, ◌+◌, map, min, sum, take}
use Rattle.std.specs.List.{sum_by}
use Rattle.plan_runs.specs.steps.RunCosts.{phrase_cost, moves_for}
use Rattle.plan_runs.specs.steps.RunShapes.{phrase_shape}
use Rattle.plan_runs.specs.steps.RunTruth.{phrase_total}
use Rattle.plan_runs.specs.steps.AskedPlaces.{text_at}
use Rattle.plan_runs.proofs.words_holding.sum_of_counts.Given as goal

abbrev pub invariant-loop-number : goal.invariant-loop-number
invariant-loop-number g l = record {
  same : map phrase_shape l.phrases.items ≡ map phrase_shape l.fn.phrases.items;
  count : l.total ≡ min (sum (map (λ phrase. phrase_total l.place.version.now phrase (text_at l.place)) (take l.number (map phrase_shape l.fn.phrases.items)))) l.most;
  price : l.moves ≤ l.fn.moves + sum_by (phrase_cost (moves_for l.place)) (take l.number (map phrase_shape l.fn.phrases.items));
  grown : l.fn.moves ≤ l.moves;
}
