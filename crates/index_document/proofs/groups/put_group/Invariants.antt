-- With the rows that are left all are put, and counted.
use Rattle.std.proofs.Common.{◌≡◌, ◌≤◌, ◌+◌, length, drop, map}
use Rattle.index_document.specs.Rows.{row_of}
use Rattle.index_document.specs.steps.Groups.{group, with_rows}
use Rattle.index_document.proofs.groups.put_group.Given as goal

abbrev pub invariant-loop-rows : goal.invariant-loop-rows
invariant-loop-rows g l = record {
  place : l.at ≤ length l.rows;
  next : l.end + length (group l.term (drop l.end l.entries.items)) ≡ l.next + length (group l.term (drop l.next l.entries.items));
  rows : with_rows l.rows l.at (map row_of (group l.term (drop l.end l.entries.items))) ≡ with_rows l.fn.rows l.place (map row_of (group l.term (drop l.next l.entries.items)));
  counted : l.steps + length (group l.term (drop l.end l.entries.items)) ≡ l.fn.steps + length (group l.term (drop l.next l.entries.items));
}

abbrev pub decreases-loop-rows : goal.decreases-loop-rows
decreases-loop-rows g l = length (group l.term (drop l.end l.entries.items))
