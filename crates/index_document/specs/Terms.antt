-- A document as its leaves with the terms of their words, each term a number, and where a term stands in it.
use Rattle.std.specs.Prelude.{ℕ, ◌+◌, Bool, true, not, cond, ◌&&◌, ◌==◌, nat_lt, List, [], ◌∷◌, map, insert, remove}
use Rattle.std.specs.List.{flat_map, list_any}

-- a leaf, which is a text of the document: its number, and the terms of its words in order
pub record Leaf : Type 0 where
  pub id : ℕ
  pub words : List ℕ

abbrev pub leaf_of : ℕ → List ℕ → Leaf
leaf_of id words = record { id = id; words = words }

-- a document: its number, and its leaves in order
pub record TermDocument : Type 0 where
  pub doc : ℕ
  pub leaves : List Leaf

abbrev pub document_of : ℕ → List Leaf → TermDocument
document_of doc leaves = record { doc = doc; leaves = leaves }

-- the document with one more leaf, before the one that is at the place, and without the one that is there
abbrev pub with_leaf : TermDocument → ℕ → Leaf → TermDocument
with_leaf document at leaf = document_of document.doc (insert document.leaves at leaf)

abbrev pub without_leaf : TermDocument → ℕ → TermDocument
without_leaf document at = document_of document.doc (remove document.leaves at)

-- the numbers of the leaves, and the words of each
abbrev pub leaf_ids : List Leaf → List ℕ
leaf_ids leaves = map (λ leaf. leaf.id) leaves

abbrev pub leaf_words : List Leaf → List (List ℕ)
leaf_words leaves = map (λ leaf. leaf.words) leaves

-- the words of all leaves, in order
abbrev pub words_of : List Leaf → List ℕ
words_of leaves = flat_map (λ leaf. leaf.words) leaves

-- whether the number is one of these
abbrev pub has : ℕ → List ℕ → Bool
has number numbers = list_any (λ other. other == number) numbers

-- whether no number stands twice
abbrev pub are_distinct : List ℕ → Bool
are_distinct [] = true
are_distinct (number ∷ rest) = not (has number rest) && are_distinct rest

-- ascending terms with one more at its place; nothing changes where it is there
abbrev pub with_term : ℕ → List ℕ → List ℕ
with_term term [] = term ∷ []
with_term term (other ∷ rest) =
    cond (nat_lt term other) (term ∷ other ∷ rest) (cond (term == other) (other ∷ rest) (other ∷ with_term term rest))

-- the terms of words: each once, ascending
abbrev pub terms_of : List ℕ → List ℕ
terms_of [] = []
terms_of (word ∷ rest) = with_term word (terms_of rest)

-- the places at which a term stands among these words, the first of which is at the place
abbrev pub places_from : ℕ → ℕ → List ℕ → List ℕ
places_from term place [] = []
places_from term place (word ∷ rest) =
    cond (word == term) (place ∷ places_from term (place + 1) rest) (places_from term (place + 1) rest)

-- the places at which a term stands in a document, counted from 1
abbrev pub places_of : ℕ → List Leaf → List ℕ
places_of term leaves = places_from term 1 (words_of leaves)
