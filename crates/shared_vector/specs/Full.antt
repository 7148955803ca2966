-- Blocks of a vector, of one length.
use Rattle.std.specs.Prelude.{◌≡◌, ℕ, ◌+◌, ◌<◌, ◌≤◌, List, [], length, slice_index_or}
use Rattle.shared_vector.specs.declared.vector.TheConstants.{BLOCK}

-- how many items a full block has
abbrev pub block_length : ℕ
block_length = BLOCK

-- all blocks but the last are full, and none has more items
pub record IsFilled {T : Type 0} (blocks : List (List T)) : Type 0 where
  pub full : (k : ℕ) → k + 1 < length blocks → length (slice_index_or blocks k []) ≡ block_length
  pub within : (k : ℕ) → k < length blocks → length (slice_index_or blocks k []) ≤ block_length
