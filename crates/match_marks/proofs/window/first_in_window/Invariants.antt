-- The hits that are left have the same choices that the window holds.
use Rattle.match_marks.specs.steps.WindowRuns.{lists_left}
use Rattle.match_marks.proofs.HeldChoices.{count_left}
use Rattle.match_marks.proofs.WindowSearch.{Searching}
use Rattle.match_marks.proofs.window.first_in_window.Given as goal

abbrev pub invariant-loop-joined : goal.invariant-loop-joined
invariant-loop-joined g l = Searching l.size l.fn.phrases.items l.phrases.items l.joined l.fn.steps l.steps

abbrev pub decreases-loop-joined : goal.decreases-loop-joined
decreases-loop-joined g l = count_left (lists_left l.phrases.items)
