-- The index of documents, under the function that gives the key of a word.
use Rattle.std.specs.Prelude.{ℕ, ◌+◌, Bool, List, [], ◌∷◌, map, cond}
use Rattle.std.specs.List.{flat_map, list_any, count_by}
use Rattle.std.specs.Ordering.{is_eq, is_gt, nat_cmp, ordering_then}
use Rattle.std.specs.declared.cmp.Ordering.{Ordering}
use Rattle.index_meaning.specs.Documents.{Document, Numbered, words_of, token_count}
use Rattle.index_meaning.specs.Entries.{Entry, entry, entry_cmp, with_entries}

-- a row of the index: a term, and a place at which it stands. Places count from 1
pub record IndexRow : Type 0 where
  pub term : Entry
  pub id : ℕ
  pub place : ℕ

-- rows are in the order of their terms, then of the documents' numbers, then of the places
abbrev pub row_cmp : IndexRow → IndexRow → Ordering
row_cmp a b = ordering_then (entry_cmp a.term b.term) (ordering_then (nat_cmp a.id b.id) (nat_cmp a.place b.place))

-- rows in order, with one more at its place
abbrev pub with_row : IndexRow → List IndexRow → List IndexRow
with_row row [] = row ∷ []
with_row row (other ∷ rest) = cond (is_gt (row_cmp row other)) (other ∷ with_row row rest) (row ∷ other ∷ rest)

abbrev pub sorted_rows : List IndexRow → List IndexRow
sorted_rows [] = []
sorted_rows (row ∷ rest) = with_row row (sorted_rows rest)

module _ (key : List ℕ → List ℕ) where
  abbrev pub term_of : List ℕ → Entry
  term_of word = entry (key word) word

  -- a row for each of the words, the first of which stands at the place
  abbrev pub rows_from : ℕ → ℕ → List (List ℕ) → List IndexRow
  rows_from id place [] = []
  rows_from id place (word ∷ rest) = record { term = term_of word; id = id; place = place } ∷ rows_from id (place + 1) rest

  -- the rows of all documents: one for each of their words, in order
  abbrev pub rows : List Numbered → List IndexRow
  rows documents = sorted_rows (flat_map (λ d. rows_from d.id 1 (words_of d.document)) documents)

  -- the terms: the different pairs of a key and a word, in order
  abbrev pub terms : List Numbered → List Entry
  terms documents = with_entries (map term_of (flat_map (λ d. words_of d.document) documents)) []

  -- whether the document has the term, and how many of the documents have it
  abbrev pub has_term : Entry → Document → Bool
  has_term term document = list_any (λ word. is_eq (entry_cmp term (term_of word))) (words_of document)

  abbrev pub document_count : Entry → List Numbered → ℕ
  document_count term documents = count_by (λ d. has_term term d.document) documents

-- what an index keeps of a document beside its rows
pub record Counted : Type 0 where
  pub id : ℕ
  pub tokens : ℕ
  pub sentences : List ℕ
  pub paragraphs : List ℕ

abbrev pub counted : Numbered → Counted
counted d = record { id = d.id; tokens = token_count d.document; sentences = d.document.sentences; paragraphs = d.document.paragraphs }

-- the index: the sorted rows, and of each document how many words it has and where its sentences and paragraphs start
pub record Index : Type 0 where
  pub rows : List IndexRow
  pub documents : List Counted

abbrev pub index : (List ℕ → List ℕ) → List Numbered → Index
index key documents = record { rows = rows key documents; documents = map counted documents }
