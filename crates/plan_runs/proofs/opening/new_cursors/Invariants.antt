-- So many cursors are there.
use Rattle.std.proofs.Common.{◌≡◌, length}
use Rattle.plan_runs.proofs.opening.new_cursors.Given as goal

abbrev pub invariant-loop-number : goal.invariant-loop-number
invariant-loop-number l = length l.cursors.items ≡ l._number
