-- Entries in the order of their terms, and what their rows do to a list of rows.
use Rattle.std.specs.Prelude.{◌≡◌, ℕ, ◌+◌, ◌==◌, cond, zero, suc, List, [], ◌∷◌, ◌++◌, length, take, drop, insert, remove}
use Rattle.std.specs.List.{flat_map}
use Rattle.std.specs.List.Sorted.{IsNonDecreasingBy}
use Rattle.postings.specs.declared.row.Row.{Row}
use Rattle.index_document.specs.Terms.{TermDocument}
use Rattle.index_document.specs.Rows.{entries, of_term}
use Rattle.index_document.specs.declared.entry.Entry.{Entry}

abbrev pub term_of : Entry → ℕ
term_of entry = entry.term

-- the same entries, in the order of their terms, and those of one term in the order in which they were
pub record IsSortedFrom (all sorted : List Entry) : Type 0 where
  pub same_length : length sorted ≡ length all
  pub same : (t : ℕ) → of_term t sorted ≡ of_term t all
  pub in_order : IsNonDecreasingBy term_of sorted

-- the entries of these terms, one term after the other
abbrev pub grouped : List ℕ → List Entry → List Entry
grouped ids all = flat_map (λ (term : ℕ). of_term term all) ids

-- the entries at the front that are of the term
abbrev pub group : ℕ → List Entry → List Entry
group term [] = []
group term (entry ∷ rest) = cond (entry.term == term) (entry ∷ group term rest) []

-- rows put one after the other, the first of them at the place
abbrev pub with_rows : List Row → ℕ → List Row → List Row
with_rows rows at [] = rows
with_rows rows at (row ∷ rest) = with_rows (insert rows at row) (at + 1) rest

-- as many rows taken out, each at the place
abbrev pub without_rows : List Row → ℕ → ℕ → List Row
without_rows rows at zero = rows
without_rows rows at (suc count) = without_rows (remove rows at) at count

-- the entries of the leaves before the place, of those after it, and of all with these between them
abbrev pub prefix_entries : TermDocument → ℕ → List Entry
prefix_entries document at = entries (take at document.leaves)

abbrev pub back_entries : TermDocument → ℕ → List Entry
back_entries document at = entries (drop at document.leaves)

abbrev pub entries_with : TermDocument → ℕ → List Entry → List Entry
entries_with document at new = prefix_entries document at ++ (new ++ back_entries document at)

-- the entries without those of the leaf at the place
abbrev pub entries_without : TermDocument → ℕ → List Entry
entries_without document at = prefix_entries document at ++ entries (drop (suc at) document.leaves)

-- the entries of the leaf at the place, if there is one
abbrev pub entries_at : TermDocument → ℕ → List Entry
entries_at document at = entries (take 1 (drop at document.leaves))
