-- So many places at least are before the position.
use Rattle.std.proofs.Common.{◌≤◌, ◌-◌}
use Rattle.index_cursors.specs.SpanHits.{below}
use Rattle.index_cursors.proofs.search.forward.Given as goal

abbrev pub invariant-loop-low : goal.invariant-loop-low
invariant-loop-low l = record {
  start : l.start ≤ l.low;
  from : l.low ≤ below l.from l.places;
}

abbrev pub decreases-loop-low : goal.decreases-loop-low
decreases-loop-low l = l.end - l.low
