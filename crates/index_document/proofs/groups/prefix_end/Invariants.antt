-- The place is between two numbers, whatever the parts of the run are.
use Rattle.std.proofs.Common.{◌≤◌, ◌+◌, ◌-◌, List, length}
use Rattle.postings.specs.declared.row.Row.{Row}
use Rattle.index_document.specs.Terms.{leaf_ids}
use Rattle.index_document.specs.steps.Directory.{IsAround}
use Rattle.index_document.proofs.groups.prefix_end.Given as goal

abbrev pub invariant-loop-low : goal.invariant-loop-low
invariant-loop-low l = record {
  order : l.low ≤ l.high;
  within : l.high ≤ length l.rows;
  low_is : (before prefix back suffix : List Row) → IsAround (leaf_ids l.leaves.leaves) l.at l.fn.run.first l.fn.run.end l.rows before prefix back suffix → l.low ≤ length before + length prefix;
  high_is : (before prefix back suffix : List Row) → IsAround (leaf_ids l.leaves.leaves) l.at l.fn.run.first l.fn.run.end l.rows before prefix back suffix → length before + length prefix ≤ l.high;
  first_is : (before prefix back suffix : List Row) → IsAround (leaf_ids l.leaves.leaves) l.at l.fn.run.first l.fn.run.end l.rows before prefix back suffix → length before ≤ l.low;
  end_is : (before prefix back suffix : List Row) → IsAround (leaf_ids l.leaves.leaves) l.at l.fn.run.first l.fn.run.end l.rows before prefix back suffix → l.high ≤ length before + length prefix + length back;
}

abbrev pub decreases-loop-low : goal.decreases-loop-low
decreases-loop-low l = l.high - l.low
