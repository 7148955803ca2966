-- The starts up to the next one are raised, and those from it on are as they were.
use Rattle.std.proofs.Common.{◌≡◌, ℕ, ◌+◌, ◌<◌, ◌≤◌, length}
use Rattle.std.specs.Prelude.{slice_index}
use Rattle.shared_list.proofs.starts.raise.Given as goal

abbrev pub invariant-loop-k : goal.invariant-loop-k
invariant-loop-k l = record {
  same_length : length l.starts.items ≡ length l.fn.starts.items;
  unmoved : (j : ℕ) → j < l.fn.from → slice_index l.starts.items j ≡ slice_index l.fn.starts.items j;
  moved : (j : ℕ) → l.fn.from ≤ j → j < l.k → slice_index l.starts.items j ≡ slice_index l.fn.starts.items j + 1;
  rest : (j : ℕ) → l.k ≤ j → slice_index l.starts.items j ≡ slice_index l.fn.starts.items j;
}
