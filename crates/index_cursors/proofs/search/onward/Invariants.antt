-- All places that were compared are before the position.
use Rattle.std.proofs.Common.{◌≤◌, ◌-◌}
use Rattle.index_cursors.specs.SpanHits.{below}
use Rattle.index_cursors.proofs.search.onward.Given as goal

abbrev pub invariant-loop-at : goal.invariant-loop-at
invariant-loop-at l = record { from : l.at ≤ below l.from l.places }

abbrev pub decreases-loop-at : goal.decreases-loop-at
decreases-loop-at l = l.end - l.at
