-- The slots up to the next one are raised where they are after the place, and those from it on are as they were.
use Rattle.std.proofs.Common.{◌≡◌, ℕ, ◌+◌, ◌<◌, ◌≤◌, cond, nat_lt, length, slice_index}
use Rattle.index_document.proofs.slots.raise_slots.Given as goal

abbrev pub invariant-loop-k : goal.invariant-loop-k
invariant-loop-k l = record {
  same_length : length l.slots.items ≡ length l.fn.slots.items;
  moved : (j : ℕ) → j < l.k →
      slice_index l.slots.items j ≡ cond (nat_lt l.at (slice_index l.fn.slots.items j)) (slice_index l.fn.slots.items j + 1) (slice_index l.fn.slots.items j);
  rest : (j : ℕ) → l.k ≤ j → slice_index l.slots.items j ≡ slice_index l.fn.slots.items j;
}
