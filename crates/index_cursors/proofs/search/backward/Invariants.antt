-- So many places at most are before the position.
use Rattle.std.proofs.Common.{◌≤◌}
use Rattle.index_cursors.specs.SpanHits.{below}
use Rattle.index_cursors.proofs.search.backward.Given as goal

abbrev pub invariant-loop-high : goal.invariant-loop-high
invariant-loop-high l = record {
  end : l.high ≤ l.end;
  to : below l.from l.places ≤ l.high;
}

abbrev pub decreases-loop-high : goal.decreases-loop-high
decreases-loop-high l = l.high
