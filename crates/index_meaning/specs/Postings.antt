-- Where a word stands in a document.
use Rattle.std.specs.Prelude.{ℕ, ◌+◌, Bool, List, [], ◌∷◌, cond}
use Rattle.std.specs.Ordering.{is_eq, nat_cmp}
use Rattle.std.specs.Cmp.Lexicographic.{slice_cmp}
use Rattle.index_meaning.specs.Documents.{Document, words_of}

abbrev pub same_word : List ℕ → List ℕ → Bool
same_word a b = is_eq (slice_cmp nat_cmp a b)

-- the places at which a word stands among these words, the first of which is at the place
abbrev pub places_from : List ℕ → ℕ → List (List ℕ) → List ℕ
places_from word place [] = []
places_from word place (other ∷ rest) = cond (same_word other word) (place ∷ places_from word (place + 1) rest) (places_from word (place + 1) rest)

-- the places at which a word stands in a document
abbrev pub places : List ℕ → Document → List ℕ
places word document = places_from word 1 (words_of document)
