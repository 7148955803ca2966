-- The first groups have their cursors.
use Rattle.std.proofs.Common.{◌≡◌, take}
use Rattle.plan_runs.specs.steps.Counts.{group_sizes}
use Rattle.plan_runs.specs.steps.RunShapes.{back_sizes, front_sizes, term_groups}
use Rattle.plan_runs.proofs.opening_counts.groups_of.Given as goal

abbrev pub invariant-loop-group : goal.invariant-loop-group
invariant-loop-group l = record {
  fronts : front_sizes l.groups.items ≡ group_sizes (term_groups (take l.group-index l.terms.items));
  backs : back_sizes l.groups.items ≡ group_sizes (term_groups (take l.group-index l.terms.items));
}
