-- A document as a version holds it, over the ids of a dictionary, and what it means under the entries that these ids name.
use Rattle.std.specs.Prelude.{ℕ, suc, ◌==◌, cond, List, [], ◌∷◌, map, Option, Some, None, slice_get}
use Rattle.std.specs.Option.{option_map_or}
use Rattle.std.specs.List.{count_by}
use Rattle.ft_base.specs.declared.ids.LeafId.{LeafId}
use Rattle.ft_base.specs.declared.places.Breaks.{Breaks}
use Rattle.index_document.specs.Terms as by_id
use Rattle.index_document.specs.Terms.{TermDocument, has}
use Rattle.index_meaning.specs.Entries.{Entry}
use Rattle.index_meaning.specs.Documents.{Leaf, Document, Numbered, leaf_of, document_of, numbered}

-- the leaves with the ids of their words, and the breaks
pub record Held : Type 0 where
  pub index : TermDocument
  pub breaks : Breaks

abbrev pub held_of : TermDocument → Breaks → Held
held_of index breaks = record { index = index; breaks = breaks }

-- the document of that number in which nothing is
abbrev pub nothing_held : ℕ → Held
nothing_held id = held_of (by_id.document_of id []) (record { sentences = []; paragraphs = [] })

-- the word that an id names
abbrev pub word_of : List Entry → ℕ → List ℕ
word_of given id = option_map_or (λ e. e.word) (slice_get given id) []

-- what a leaf, a document and all documents mean
abbrev pub leaf_under : List Entry → by_id.Leaf → Leaf
leaf_under given leaf = leaf_of leaf.id (map (word_of given) leaf.words)

abbrev pub document_under : List Entry → Held → Document
document_under given held = document_of (map (leaf_under given) held.index.leaves) held.breaks

abbrev pub numbered_under : List Entry → Held → Numbered
numbered_under given held = numbered held.index.doc (document_under given held)

abbrev pub documents_under : List Entry → List Held → List Numbered
documents_under given documents = map (numbered_under given) documents

-- the numbers of the documents
abbrev pub numbers : List Held → List ℕ
numbers documents = map (λ held. held.index.doc) documents

-- the ids of a document's words, in order, and how many of the documents have an id
abbrev pub held_ids : Held → List ℕ
held_ids held = by_id.words_of held.index.leaves

abbrev pub documents_with : ℕ → List Held → ℕ
documents_with id documents = count_by (λ held. has id (held_ids held)) documents

-- the document of that number; where there is none, the one in which nothing is
abbrev pub held_at : ℕ → List Held → Held
held_at id [] = nothing_held id
held_at id (held ∷ rest) = cond (held.index.doc == id) held (held_at id rest)

-- the document, if there is one, as a list
abbrev pub listed : Option Held → List Held
listed None = []
listed (Some held) = held ∷ []

-- the ids of its words
abbrev pub listed_ids : Option Held → List ℕ
listed_ids None = []
listed_ids (Some held) = held_ids held

-- the ids of the words of the leaf of that number, if there is one
abbrev pub ids_of_leaf : ℕ → List by_id.Leaf → List ℕ
ids_of_leaf id [] = []
ids_of_leaf id (leaf ∷ rest) = cond (leaf.id == id) leaf.words (ids_of_leaf id rest)

-- how many leaves stand before the place directly after a leaf, by the leaves' numbers
abbrev pub place_after : ℕ → List ℕ → ℕ
place_after after [] = 0
place_after after (id ∷ rest) = cond (id == after) 1 (suc (place_after after rest))

-- the same, or before all
abbrev pub place_following : Option LeafId → List ℕ → ℕ
place_following None ids = 0
place_following (Some after) ids = place_after after.0 ids
