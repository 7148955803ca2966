-- The runs stay.
use Rattle.std.proofs.Common.{◌≡◌}
use Rattle.session_state.proofs.asked_runs.look_up.Given as goal

abbrev pub invariant-loop-number : goal.invariant-loop-number
invariant-loop-number l = l.runs ≡ l.fn.runs
