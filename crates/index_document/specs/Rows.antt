-- The rows of a document's words, and the rows of its terms as they stand in its index.
use Rattle.std.specs.Prelude.{◌≡◌, ℕ, Bool, ◌+◌, ◌==◌, true, nat_lt, List, [], ◌∷◌, length, map, filter, take, drop, ◌≤◌, ◌<◌, ◌^◌, ◌-◌}
use Rattle.std.specs.List.{flat_map}
use Rattle.ft_base.specs.Places.{is_ascending}
use Rattle.postings.specs.declared.row.Row.{Row}
use Rattle.shared_list.specs.Blocks.{joined, starts_from}
use Rattle.index_document.specs.Terms.{Leaf, TermDocument, are_distinct, has, leaf_ids}
use Rattle.index_document.specs.declared.entry.Entry.{Entry}
use Rattle.index_document.specs.declared.parts.Parts.{Parts}

abbrev pub row_at : ℕ → ℕ → Row
row_at leaf offset = record { leaf = record { 0 = leaf }; offset = offset }

abbrev pub entry_at : ℕ → ℕ → ℕ → Entry
entry_at leaf offset term = record { term = term; row = row_at leaf offset }

-- words of a leaf with their rows, where so many of its words stand before the first
abbrev pub entries_from : ℕ → ℕ → List ℕ → List Entry
entries_from leaf offset [] = []
entries_from leaf offset (word ∷ rest) = entry_at leaf offset word ∷ entries_from leaf (offset + 1) rest

abbrev pub leaf_entries : Leaf → List Entry
leaf_entries leaf = entries_from leaf.id 0 leaf.words

-- the words of leaves with their rows, in order
abbrev pub entries : List Leaf → List Entry
entries leaves = flat_map leaf_entries leaves

abbrev pub entries_of : TermDocument → List Entry
entries_of document = entries document.leaves

-- those of one term, and their rows
abbrev pub of_term : ℕ → List Entry → List Entry
of_term term all = filter (λ (entry : Entry). entry.term == term) all

abbrev pub row_of : Entry → Row
row_of entry = entry.row

abbrev pub rows_of : ℕ → List Entry → List Row
rows_of term all = map row_of (of_term term all)

abbrev pub has_rows : List Entry → ℕ → Bool
has_rows all term = nat_lt 0 (length (of_term term all))

-- the rows of each of these terms
abbrev pub runs_of : List Entry → List ℕ → List (List Row)
runs_of all ids = map (λ (term : ℕ). rows_of term all) ids

-- the rows are those of the terms, one term after the other, and the starts say where each begins
pub record IsIndexed (all : List Entry) (ids starts : List ℕ) (rows : List Row) : Type 0 where
  pub rows_are : rows ≡ joined (runs_of all ids)
  pub starts_are : starts ≡ starts_from 0 (runs_of all ids)

-- the terms ascend, and are those of the entries
pub record HasTerms (all : List Entry) (ids : List ℕ) : Type 0 where
  pub rising : is_ascending ids ≡ true
  pub members : (t : ℕ) → has t ids ≡ has_rows all t

pub record IsSound (parts : Parts) : Type 0 where
  pub indexed : IsIndexed (entries_of parts.leaves) parts.ids.items parts.starts.items parts.rows
  pub terms : HasTerms (entries_of parts.leaves) parts.ids.items

-- the rows of a term are those from one place up to another; no two leaves have one number
pub record IsRunOf (document : TermDocument) (rows : List Row) (term first end : ℕ) : Type 0 where
  pub order : first ≤ end
  pub within : end ≤ length rows
  pub fits : end < 2 ^ 64
  pub run : take (end - first) (drop first rows) ≡ rows_of term (entries_of document)
  pub distinct : are_distinct (leaf_ids document.leaves) ≡ true
