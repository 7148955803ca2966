-- A row is counted for each place up to the next one.
use Rattle.std.proofs.Common.{◌≡◌, ◌+◌}
use Rattle.postings.proofs.posting_list.PostingList.clear.Given as goal

abbrev pub invariant-loop : goal.invariant-loop
invariant-loop g l = l.rows ≡ l.fn.rows + l.counter
