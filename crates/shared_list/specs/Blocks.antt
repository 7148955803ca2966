-- A list that is cut into blocks.
use Rattle.std.specs.Prelude.{◌≡◌, ℕ, ◌+◌, ◌<◌, ◌≤◌, List, [], ◌∷◌, length, take, slice_index, slice_index_or}
use Rattle.std.specs.List.{flat_map}

-- the items of the blocks, one block after the other
abbrev pub joined : {T : Type 0} → List (List T) → List T
joined blocks = flat_map (λ block. block) blocks

-- the place of the first item of the block of that number: how many items stand in the blocks before it
abbrev pub start_of : {T : Type 0} → List (List T) → ℕ → ℕ
start_of blocks number = length (joined (take number blocks))

-- the starts of all blocks, where `before` items stand before the first
abbrev pub starts_from : {T : Type 0} → ℕ → List (List T) → List ℕ
starts_from before [] = []
starts_from before (block ∷ rest) = before ∷ starts_from (before + length block) rest

-- the place is in the block of that number, or after the last item of the last block
pub record IsBlockOf {T : Type 0} (blocks : List (List T)) (at number : ℕ) : Type 0 where
  pub there : number < length blocks
  pub from : start_of blocks number ≤ at
  pub to : number + 1 < length blocks → at < start_of blocks (number + 1)

-- from that number on, each number of the second list is one more than the first has there; before it they are the same
pub record IsRaised (from : ℕ) (low high : List ℕ) : Type 0 where
  pub same_length : length high ≡ length low
  pub unmoved : (k : ℕ) → k < from → slice_index high k ≡ slice_index low k
  pub beyond : (k : ℕ) → from ≤ k → k < length low → slice_index high k ≡ slice_index low k + 1

-- the items stand in the list, one after the other, from that place on
pub record IsRun {T : Type 0} (list : List T) (start : ℕ) (items : List T) : Type 0 where
  pub within : start + length items ≤ length list
  pub same : (k : ℕ) (d : T) → k < length items → slice_index_or items k d ≡ slice_index_or list (start + k) d
