-- The first parts were opened.
use Rattle.std.proofs.Common.{map, take}
use Rattle.plan_runs.specs.steps.OpenedWords.{AreOpened}
use Rattle.plan_runs.specs.steps.RunShapes.{shape}
use Rattle.plan_runs.proofs.opening.+open.Given as goal

abbrev pub invariant-open_all-loop-part : goal.invariant-open_all-loop-part
invariant-open_all-loop-part l = AreOpened l.opening.looks l.opening.lists.now.stems l.opening.version.now (map shape l.runs.items) (take l.part-index l.part-items)
