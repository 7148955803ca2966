-- The number is between two others.
use Rattle.std.proofs.Common.{◌≤◌, ◌+◌, length}
use Rattle.index_cursors.specs.SpanHits.{started}
use Rattle.index_cursors.proofs.break_view.started_at.Given as goal

abbrev pub invariant-loop-size : goal.invariant-loop-size
invariant-loop-size l = record {
  from : l.low ≤ started l.starts l.place;
  to : started l.starts l.place ≤ l.low + l.size;
  within : l.low + l.size ≤ length l.starts;
}

abbrev pub decreases-loop-size : goal.decreases-loop-size
decreases-loop-size l = l.size
