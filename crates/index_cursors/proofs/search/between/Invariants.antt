-- The number is between two others.
use Rattle.std.proofs.Common.{◌≤◌, ◌-◌, length}
use Rattle.index_cursors.specs.SpanHits.{below}
use Rattle.index_cursors.proofs.search.between.Given as goal

abbrev pub invariant-loop-low : goal.invariant-loop-low
invariant-loop-low l = record {
  from : l.low ≤ below l.from l.places;
  to : below l.from l.places ≤ l.high;
  within : l.high ≤ length l.places;
}

abbrev pub decreases-loop-low : goal.decreases-loop-low
decreases-loop-low l = l.high - l.low
