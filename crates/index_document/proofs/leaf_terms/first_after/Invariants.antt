-- The leaf is between two numbers, and the words before the first of them are no more than wanted.
use Rattle.std.proofs.Common.{◌≤◌, ◌-◌, length, take}
use Rattle.index_document.specs.Terms.{words_of}
use Rattle.index_document.proofs.leaf_terms.first_after.Given as goal

abbrev pub invariant-loop-low : goal.invariant-loop-low
invariant-loop-low l = record {
  order : l.low ≤ l.high;
  within : l.high ≤ length l.leaves.leaves;
  before : length (words_of (take l.low l.leaves.leaves)) ≤ l.word;
}

abbrev pub decreases-loop-low : goal.decreases-loop-low
decreases-loop-low l = l.high - l.low
