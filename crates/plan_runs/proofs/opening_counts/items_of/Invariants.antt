-- The first items have their bounds and their cursors.
use Rattle.std.proofs.Common.{◌≡◌, map, take}
use Rattle.plan_runs.specs.steps.Counts.{group_sizes}
use Rattle.plan_runs.specs.steps.RunShapes.{item_backs, item_bounds, item_fronts, term_counts}
use Rattle.plan_runs.proofs.opening_counts.items_of.Given as goal

abbrev pub invariant-loop-item : goal.invariant-loop-item
invariant-loop-item l = record {
  bounds : map item_bounds l.items.items ≡ map (λ item. (item.least, item.most)) (map term_counts (take l.item-index l.words.items));
  fronts : map item_fronts l.items.items ≡ map (λ item. group_sizes item.groups) (map term_counts (take l.item-index l.words.items));
  backs : map item_backs l.items.items ≡ map (λ item. group_sizes item.groups) (map term_counts (take l.item-index l.words.items));
}
