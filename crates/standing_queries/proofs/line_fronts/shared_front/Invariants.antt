-- No front is longer than the one before it.
use Rattle.std.proofs.Common.{◌≤◌, length}
use Rattle.standing_queries.proofs.line_fronts.shared_front.Given as goal

abbrev pub invariant-loop-length : goal.invariant-loop-length
invariant-loop-length l = l.length ≤ length l.front

abbrev pub decreases-loop-length : goal.decreases-loop-length
decreases-loop-length l = l.length
