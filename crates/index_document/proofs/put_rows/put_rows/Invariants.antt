-- So many terms are done, and as many rows are counted as entries are put.
use Rattle.std.proofs.Common.{◌≡◌, ◌+◌}
use Rattle.index_document.proofs.StepLemmas.{IsPutting}
use Rattle.index_document.proofs.put_rows.put_rows.Given as goal

abbrev pub invariant-loop-number : goal.invariant-loop-number
invariant-loop-number g l = record {
  leaves : l.parts.leaves ≡ l.fn.parts.leaves;
  ids : l.parts.ids.items ≡ l.fn.parts.ids.items;
  old_starts : l.parts.starts.items ≡ l.fn.parts.starts.items;
  state : IsPutting l.fn.parts.leaves l.at l.entries.items l.fn.parts.ids.items l.number l.next l.parts.rows l.starts.items;
  counted : l.steps ≡ l.fn.steps + l.next;
}
