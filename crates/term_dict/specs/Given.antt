-- The entries that ever came into a dictionary, in blocks, and its terms as their ids.
use Rattle.std.specs.Prelude.{◌≡◌, ◌+◌, ◌<◌, ◌≤◌, ℕ, Bool, nat_lt, List, [], ◌∷◌, length, map, slice_index_or}
use Rattle.std.specs.List.{list_all}
use Rattle.index_meaning.specs.Entries.{Entry, entry}
use Rattle.index_meaning.specs.Dictionaries.{Term, term}
use Rattle.shared_list.specs.Blocks.{joined}

-- the entries of these keys, each with its word
abbrev pub paired : List (List ℕ) → List (List ℕ) → List Entry
paired [] words = []
paired (key ∷ keys) [] = []
paired (key ∷ keys) (word ∷ words) = entry key word ∷ paired keys words

-- how many entries a block holds at most
abbrev pub block_size : ℕ
block_size = 256

-- no block holds more, and all but the last one hold as many
pub record IsFilled (blocks : List (List Entry)) : Type 0 where
  pub few : (k : ℕ) → k < length blocks → length (slice_index_or blocks k []) ≤ block_size
  pub full : (k : ℕ) → k + 1 < length blocks → length (slice_index_or blocks k []) ≡ block_size

-- and their entries are counted
pub record IsHeld (blocks : List (List Entry)) (count : ℕ) : Type 0 where
  pub filled : IsFilled blocks
  pub counted : count ≡ length (joined blocks)

-- whether all ids are of entries that came in
abbrev pub are_below : ℕ → List ℕ → Bool
are_below count ids = list_all (λ id. nat_lt id count) ids

-- the term of an id: the entry at its place among those that came in
abbrev pub term_of : List Entry → ℕ → Term
term_of given id = term (slice_index_or given id (entry [] [])) id

abbrev pub terms_of : List Entry → List ℕ → List Term
terms_of given ids = map (term_of given) ids
