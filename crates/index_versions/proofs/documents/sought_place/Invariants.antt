-- The place is between two numbers.
use Rattle.std.proofs.Common.{◌≤◌, ◌-◌, length}
use Rattle.index_cursors.specs.SpanHits.{below}
use Rattle.index_versions.specs.steps.Held.{numbers}
use Rattle.index_versions.proofs.documents.sought_place.Given as goal

abbrev pub invariant-loop-low : goal.invariant-loop-low
invariant-loop-low l = record {
  from : l.low ≤ below l.doc.0 (numbers l.documents);
  to : below l.doc.0 (numbers l.documents) ≤ l.high;
  within : l.high ≤ length l.documents;
}

abbrev pub decreases-loop-low : goal.decreases-loop-low
decreases-loop-low l = l.high - l.low
