-- The first parts were opened.
use Rattle.std.proofs.Common.{map, take}
use Rattle.match_marks.specs.steps.ShownRuns.{AreShown, AreShownParts, choosing, showing}
use Rattle.match_marks.proofs.opening.+open.Given as goal

abbrev pub invariant-open_each-loop-node : goal.invariant-open_each-loop-node
invariant-open_each-loop-node l = AreShown l.opening.looks l.opening.lists.now.stems l.opening.version.now (map showing l.runs.items) (take l.node-index l.node-items)

abbrev pub invariant-open_parts-loop-part : goal.invariant-open_parts-loop-part
invariant-open_parts-loop-part l = AreShownParts l.opening.looks l.opening.lists.now.stems l.opening.version.now (map choosing l.runs.items) (take l.part-index l.part-items)
