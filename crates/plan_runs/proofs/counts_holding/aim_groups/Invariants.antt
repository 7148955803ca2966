-- The cursors of the first groups were aimed, in front and at the back.
use Rattle.std.proofs.Common.{◌≡◌, ◌≤◌, ◌+◌, ◌*◌, map, take}
use Rattle.std.specs.List.{sum_by}
use Rattle.count_merges.specs.Groups.{group_left}
use Rattle.plan_runs.specs.steps.Counts.{group_sizes}
use Rattle.plan_runs.specs.steps.RunShapes.{back_sizes, front_sizes, term_groups}
use Rattle.plan_runs.proofs.CountAims.{back_wants, front_wants, group_moves, group_wants}
use Rattle.plan_runs.proofs.counts_holding.aim_groups.Given as goal

abbrev pub invariant-loop-number : goal.invariant-loop-number
invariant-loop-number g l = record {
  terms : term_groups l.terms.items ≡ term_groups l.fn.terms.items;
  front_sized : front_sizes l.groups.items ≡ group_sizes (term_groups l.fn.terms.items);
  back_sized : back_sizes l.groups.items ≡ group_sizes (term_groups l.fn.terms.items);
  fronts : map front_wants (take l.number l.groups.items) ≡ map (group_wants l.place) (take l.number (term_groups l.fn.terms.items));
  backs : map back_wants (take l.number l.groups.items) ≡ map (group_wants l.place) (take l.number (term_groups l.fn.terms.items));
  price : l.moves + 2 * sum_by (group_left (λ cursor. cursor)) (take l.number l.groups.items) ≤ l.fn.moves + 2 * sum_by (group_moves l.place) (take l.number (term_groups l.fn.terms.items));
  grown : l.fn.moves ≤ l.moves;
}
