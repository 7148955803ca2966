-- The first groups were opened.
use Rattle.std.proofs.Common.{◌≡◌, map, take}
use Rattle.plan_runs.specs.steps.OpenedWords.{opened_group}
use Rattle.plan_runs.specs.steps.RunShapes.{group_shape}
use Rattle.plan_runs.proofs.opening.open_groups.Given as goal

abbrev pub invariant-loop-group : goal.invariant-loop-group
invariant-loop-group l = map group_shape l.runs.items ≡ map (opened_group l.opening.looks l.opening.lists.now.stems l.opening.version.now) (take l.group-index l.groups)
