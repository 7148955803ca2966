-- So many starts are at the place or before it.
use Rattle.std.proofs.Common.{◌≤◌, ◌-◌, length}
use Rattle.index_cursors.specs.SpanHits.{started}
use Rattle.ignore_view.proofs.starts.started_from.Given as goal

abbrev pub invariant-loop-number : goal.invariant-loop-number
invariant-loop-number l = record {
  most : l.number ≤ started l.starts l.place;
  within : l.number ≤ length l.starts;
}

abbrev pub decreases-loop-number : goal.decreases-loop-number
decreases-loop-number l = length l.starts - l.number
