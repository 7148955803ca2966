-- What an index is made of: documents by their numbers, each with its words, leaf by leaf, and its breaks.
use Rattle.std.specs.Prelude.{ℕ, Bool, cond, not, nat_lt, ◌==◌, List, [], ◌∷◌, length, map, filter, Option, Some, None}
use Rattle.std.specs.List.{flat_map, list_any}
use Rattle.ft_base.specs.declared.ids.LeafId.{LeafId}
use Rattle.ft_base.specs.declared.places.Breaks.{Breaks}

-- a leaf, which is a text of the document: its number, and its words in order, as their bytes
pub record Leaf : Type 0 where
  pub id : ℕ
  pub words : List (List ℕ)

abbrev pub leaf_of : ℕ → List (List ℕ) → Leaf
leaf_of id words = record { id = id; words = words }

-- a document: its leaves in order, and the places at which its sentences and its paragraphs start
pub record Document : Type 0 where
  pub leaves : List Leaf
  pub sentences : List ℕ
  pub paragraphs : List ℕ

abbrev pub document_of : List Leaf → Breaks → Document
document_of leaves breaks = record { leaves = leaves; sentences = breaks.sentences; paragraphs = breaks.paragraphs }

-- a document under its number
pub record Numbered : Type 0 where
  pub id : ℕ
  pub document : Document

abbrev pub numbered : ℕ → Document → Numbered
numbered id document = record { id = id; document = document }

-- the words of a document, in order
abbrev pub words_of : Document → List (List ℕ)
words_of document = flat_map (λ leaf. leaf.words) document.leaves

-- how many words a document has
abbrev pub token_count : Document → ℕ
token_count document = length (words_of document)

-- where its sentences and its paragraphs start
abbrev pub breaks_of : Document → Breaks
breaks_of document = record { sentences = document.sentences; paragraphs = document.paragraphs }

-- the numbers of leaves, and whether a document has a leaf of that number
abbrev pub leaf_ids : List Leaf → List ℕ
leaf_ids leaves = map (λ leaf. leaf.id) leaves

abbrev pub has_leaf : ℕ → Document → Bool
has_leaf id document = list_any (λ leaf. leaf.id == id) document.leaves

-- the words of the leaf of that number, if there is one
abbrev pub leaf_words : ℕ → List Leaf → List (List ℕ)
leaf_words id [] = []
leaf_words id (leaf ∷ rest) = cond (leaf.id == id) leaf.words (leaf_words id rest)

-- leaves with one more, directly after the one of that number
abbrev pub put_after : ℕ → Leaf → List Leaf → List Leaf
put_after after new [] = new ∷ []
put_after after new (leaf ∷ rest) = cond (leaf.id == after) (leaf ∷ new ∷ rest) (leaf ∷ put_after after new rest)

-- leaves with one more, directly after a leaf, or before all
abbrev pub leaves_with : Option LeafId → Leaf → List Leaf → List Leaf
leaves_with None new leaves = new ∷ leaves
leaves_with (Some after) new leaves = put_after after.0 new leaves

-- the document with that leaf, without the leaf of that number, and with other breaks
abbrev pub with_leaf : Option LeafId → Leaf → Document → Document
with_leaf after new document = document_of (leaves_with after new document.leaves) (breaks_of document)

abbrev pub without_leaf : ℕ → Document → Document
without_leaf id document = document_of (filter (λ leaf. not (leaf.id == id)) document.leaves) (breaks_of document)

abbrev pub with_breaks : Breaks → Document → Document
with_breaks breaks document = document_of document.leaves breaks

-- the document in which nothing is
abbrev pub no_document : Document
no_document = record { leaves = []; sentences = []; paragraphs = [] }

-- the numbers of documents, and whether one of them has that number
abbrev pub document_ids : List Numbered → List ℕ
document_ids documents = map (λ d. d.id) documents

abbrev pub has_document : ℕ → List Numbered → Bool
has_document id documents = list_any (λ d. d.id == id) documents

-- the document of that number; where there is none, one in which nothing is
abbrev pub document_at : ℕ → List Numbered → Document
document_at id [] = no_document
document_at id (d ∷ rest) = cond (d.id == id) d.document (document_at id rest)

-- documents in the order of their numbers with this one at its place, which is that of the one with its number, if there is one
abbrev pub with_document : Numbered → List Numbered → List Numbered
with_document new [] = new ∷ []
with_document new (d ∷ rest) =
    cond (nat_lt new.id d.id) (new ∷ d ∷ rest) (cond (new.id == d.id) (new ∷ rest) (d ∷ with_document new rest))

-- the documents without the one of that number
abbrev pub without_document : ℕ → List Numbered → List Numbered
without_document id documents = filter (λ d. not (d.id == id)) documents
