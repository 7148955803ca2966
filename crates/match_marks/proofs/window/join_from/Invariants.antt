-- The phrases before this one were gone on, and their first hits are joined.
use Rattle.match_marks.proofs.WindowSearch.{Gathering}
use Rattle.match_marks.proofs.window.join_from.Given as goal

abbrev pub invariant-loop-number : goal.invariant-loop-number
invariant-loop-number g l = Gathering l.from l.fn.phrases.items l.phrases.items l.number l.firsts l.fn.steps l.steps
