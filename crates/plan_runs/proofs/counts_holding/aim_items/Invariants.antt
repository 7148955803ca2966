-- The cursors of the first items were aimed, in front and at the back.
use Rattle.std.proofs.Common.{◌≡◌, ◌≤◌, ◌+◌, ◌*◌, map, take}
use Rattle.std.specs.List.{sum_by}
use Rattle.count_merges.specs.Groups.{items_left}
use Rattle.plan_runs.specs.steps.RunShapes.{item_backs, item_bounds, item_fronts, term_counts}
use Rattle.plan_runs.proofs.CountAims.{item_back_wants, item_front_wants, terms_moves, terms_sizes, terms_wants}
use Rattle.plan_runs.proofs.counts_holding.aim_items.Given as goal

abbrev pub invariant-loop-number : goal.invariant-loop-number
invariant-loop-number g l = record {
  words : map term_counts l.words.items ≡ map term_counts l.fn.words.items;
  bounds : map item_bounds l.items.items ≡ map item_bounds l.fn.items.items;
  front_sized : map item_fronts l.items.items ≡ map terms_sizes (map term_counts l.fn.words.items);
  back_sized : map item_backs l.items.items ≡ map terms_sizes (map term_counts l.fn.words.items);
  fronts : map item_front_wants (take l.number l.items.items) ≡ map (terms_wants l.place) (take l.number (map term_counts l.fn.words.items));
  backs : map item_back_wants (take l.number l.items.items) ≡ map (terms_wants l.place) (take l.number (map term_counts l.fn.words.items));
  price : l.moves + 2 * items_left (λ cursor. cursor) (take l.number l.items.items) ≤ l.fn.moves + 2 * sum_by (terms_moves l.place) (take l.number (map term_counts l.fn.words.items));
  grown : l.fn.moves ≤ l.moves;
}
