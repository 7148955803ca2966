-- How many documents have each term.
use Rattle.std.specs.Prelude.{ℕ, ◌+◌, ◌-◌, ◌==◌, cond, List, filter, slice_index_or}
use Rattle.index_document.specs.Terms.{has, terms_of}

-- the count of a term, by its number; a term after the last one has none
abbrev pub count_of : List ℕ → ℕ → ℕ
count_of counts term = slice_index_or counts term 0

-- the count of a term once a document with these words has come, and once it has gone
abbrev pub count_with : List ℕ → List ℕ → ℕ → ℕ
count_with counts words term = count_of counts term + cond (has term words) 1 0

abbrev pub count_without : List ℕ → List ℕ → ℕ → ℕ
count_without counts words term = count_of counts term - cond (has term words) 1 0

-- the terms of these words that no document has, ascending
abbrev pub fallen : List ℕ → List ℕ → List ℕ
fallen counts words = filter (λ term. count_of counts term == 0) (terms_of words)
