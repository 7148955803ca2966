-- The place is between the starts of two numbers.
use Rattle.std.proofs.Common.{◌≤◌, ◌<◌, ◌-◌, length, slice_index}
use Rattle.shared_list.proofs.starts.between.Given as goal

abbrev pub invariant-loop-high : goal.invariant-loop-high
invariant-loop-high l = record {
  apart : l.low < l.high;
  within : l.high < length l.starts.items;
  from : slice_index l.starts.items l.low ≤ l.at;
  to : l.at < slice_index l.starts.items l.high;
}

abbrev pub decreases-loop-high : goal.decreases-loop-high
decreases-loop-high l = l.high - l.low
