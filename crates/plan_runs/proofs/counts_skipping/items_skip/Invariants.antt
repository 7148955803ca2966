-- The last of those so far and of those that are left is the last of all; a step was counted for each term of those so far.
use Rattle.std.proofs.Common.{◌≡◌, ◌≤◌, ◌+◌, drop, fold, map, take, Some}
use Rattle.std.specs.List.{sum_by}
use Rattle.plan_runs.specs.steps.Counts.{item_cost}
use Rattle.plan_runs.specs.steps.RunCosts.{term_count}
use Rattle.plan_runs.specs.steps.RunShapes.{term_counts}
use Rattle.plan_runs.specs.steps.RunSkips.{item_skip}
use Rattle.plan_runs.specs.steps.Skips.{later, latest}
use Rattle.plan_runs.proofs.counts_skipping.items_skip.Given as goal

abbrev pub invariant-loop-item : goal.invariant-loop-item
invariant-loop-item g l = record {
  skip : fold later (Some l.last) (map (λ item. item_skip l.doc.0 l.part (term_counts item)) (drop l.item-index l.items.items))
      ≡ latest (map (λ item. item_skip l.doc.0 l.part (term_counts item)) l.items.items);
  price : l.moves ≤ l.fn.moves + sum_by (λ item. item_cost term_count (term_counts item)) (take l.item-index l.items.items);
  grown : l.fn.moves ≤ l.moves;
}
