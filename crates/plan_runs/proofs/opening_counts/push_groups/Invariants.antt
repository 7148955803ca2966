-- What was pushed and what is left are all.
use Rattle.std.proofs.Common.{◌≡◌, ◌++◌}
use Rattle.plan_runs.specs.steps.RunShapes.{term_groups}
use Rattle.plan_runs.proofs.opening_counts.push_groups.Given as goal

abbrev pub invariant-loop-group : goal.invariant-loop-group
invariant-loop-group l = term_groups l.all.items ++ term_groups l.group-iterator.rest.items ≡ term_groups l.fn.all.items ++ term_groups l.fn.groups.items
