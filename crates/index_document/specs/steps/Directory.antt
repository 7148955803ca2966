-- Where the leaves of a document are found by their numbers.
use Rattle.std.specs.Prelude.{◌≡◌, ℕ, Bool, ◌+◌, ◌-◌, ◌<◌, ◌^◌, ◌==◌, true, cond, nat_lt, nat_le, zero, suc, List, [], ◌∷◌, ◌++◌, false, length, slice_index}
use Rattle.std.specs.List.{list_all, list_any}
use Rattle.postings.specs.declared.row.Row.{Row}
use Rattle.index_document.specs.Terms.{Leaf, leaf_ids, words_of, has, are_distinct}

-- one more, but 0 stays 0
abbrev pub next_slot : ℕ → ℕ
next_slot zero = 0
next_slot (suc slot) = suc (suc slot)

-- at which place a number stands, counted from 1, and 0 where it isn't there
abbrev pub slot_of : List ℕ → ℕ → ℕ
slot_of [] id = 0
slot_of (other ∷ rest) id = cond (other == id) 1 (next_slot (slot_of rest id))

-- how many words stand in the leaves before that one
abbrev pub words_before : List Leaf → ℕ → ℕ
words_before [] id = 0
words_before (leaf ∷ rest) id = cond (leaf.id == id) 0 (length leaf.words + words_before rest id)

-- the place of a row in its document, counted from 1
abbrev pub place_of : List Leaf → Row → ℕ
place_of leaves row = words_before leaves row.leaf.0 + row.offset + 1

-- by the number of a leaf: its place, counted from 1, and how many words stand before it
pub record IsDirectory (leaves : List Leaf) (slots befores : List ℕ) (words : ℕ) : Type 0 where
  pub slots_are : (id : ℕ) → slice_index slots id ≡ slot_of (leaf_ids leaves) id
  pub befores_are : (id : ℕ) → has id (leaf_ids leaves) ≡ true → slice_index befores id ≡ words_before leaves id
  pub same_length : length befores ≡ length slots
  pub words_are : words ≡ length (words_of leaves)
  pub few : words < 2 ^ 32
  pub distinct : are_distinct (leaf_ids leaves) ≡ true

-- whether a row is of a leaf before the place
abbrev pub is_before : List ℕ → ℕ → Row → Bool
is_before ids at row = nat_le (slot_of ids row.leaf.0) at

-- the numbers of a directory where a leaf with so many words is to come to the place: those of the leaves after it move
pub record IsOpened (at by : ℕ) (slots befores new_slots new_befores : List ℕ) : Type 0 where
  pub slots_length : length new_slots ≡ length slots
  pub befores_length : length new_befores ≡ length slots
  pub slots_are : (k : ℕ) → k < length slots → slice_index new_slots k ≡ cond (nat_lt at (slice_index slots k)) (slice_index slots k + 1) (slice_index slots k)
  pub befores_are : (k : ℕ) → k < length slots
      → slice_index new_befores k ≡ cond (nat_lt at (slice_index slots k)) (slice_index befores k + by) (slice_index befores k)

-- the same where the leaf of that number went
pub record IsClosed (at by number : ℕ) (slots befores new_slots new_befores : List ℕ) : Type 0 where
  pub slots_length : length new_slots ≡ length slots
  pub befores_length : length new_befores ≡ length slots
  pub slots_are : (k : ℕ) → k < length slots →
      slice_index new_slots k ≡ cond (k == number) 0 (cond (nat_lt (at + 1) (slice_index slots k)) (slice_index slots k - 1) (slice_index slots k))
  pub befores_are : (k : ℕ) → k < length slots
      → slice_index new_befores k ≡ cond (nat_lt (at + 1) (slice_index slots k)) (slice_index befores k - by) (slice_index befores k)

-- one number of a list is another
abbrev pub IsChanged : ℕ → ℕ → List ℕ → List ℕ → Type 0
IsChanged at number old new = (k : ℕ) → slice_index new k ≡ cond (k == at) number (slice_index old k)

-- the rows, and among them a run, the prefix of which is of leaves before the place, and the rest isn't
pub record IsAround (ids : List ℕ) (at first end : ℕ) (rows before prefix back suffix : List Row) : Type 0 where
  pub rows_are : rows ≡ before ++ (prefix ++ (back ++ suffix))
  pub first_is : first ≡ length before
  pub end_is : end ≡ length before + length prefix + length back
  pub rows_before : list_all (is_before ids at) prefix ≡ true
  pub not_before : list_any (is_before ids at) back ≡ false
