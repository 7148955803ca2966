-- The numbers up to the next one are raised where their slots are after the place, and those from it on are as they were.
use Rattle.std.proofs.Common.{◌≡◌, ℕ, ◌+◌, ◌<◌, ◌≤◌, cond, nat_lt, length, slice_index}
use Rattle.index_document.proofs.slots.raise_after.Given as goal

abbrev pub invariant-loop-k : goal.invariant-loop-k
invariant-loop-k l = record {
  same_length : length l.numbers.items ≡ length l.slots.items;
  moved : (j : ℕ) → j < l.k →
      slice_index l.numbers.items j ≡ cond (nat_lt l.at (slice_index l.slots.items j)) (slice_index l.fn.numbers.items j + l.by) (slice_index l.fn.numbers.items j);
  rest : (j : ℕ) → l.k ≤ j → slice_index l.numbers.items j ≡ slice_index l.fn.numbers.items j;
}
