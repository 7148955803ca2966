-- With the rows that are left all are taken out, and counted.
use Rattle.std.proofs.Common.{◌≡◌, ◌+◌, ◌≤◌, length, drop}
use Rattle.index_document.specs.steps.Groups.{group, without_rows}
use Rattle.index_document.proofs.groups.take_group.Given as goal

abbrev pub invariant-loop-rows : goal.invariant-loop-rows
invariant-loop-rows g l = record {
  there : l.place + length (group l.term (drop l.end l.entries.items)) ≤ length l.rows;
  next : l.end + length (group l.term (drop l.end l.entries.items)) ≡ l.next + length (group l.term (drop l.next l.entries.items));
  rows : without_rows l.rows l.place (length (group l.term (drop l.end l.entries.items))) ≡ without_rows l.fn.rows l.place (length (group l.term (drop l.next l.entries.items)));
  counted : l.steps + length (group l.term (drop l.end l.entries.items)) ≡ l.fn.steps + length (group l.term (drop l.next l.entries.items));
}

abbrev pub decreases-loop-rows : goal.decreases-loop-rows
decreases-loop-rows g l = length (group l.term (drop l.end l.entries.items))
