-- What the calls on a version speak of: the terms of its documents by number, and where one of them stands in a span.
use Rattle.std.specs.Prelude.{ℕ, Bool, nat_lt, [], List, length, slice_index_or}
use Rattle.ft_base.specs.declared.hit.Hit.{Hit}
use Rattle.ft_base.specs.declared.span.Span.{Span}
use Rattle.text_forms.specs.Forms.{key_of}
use Rattle.index_meaning.specs.Entries.{Entry, entry}
use Rattle.index_meaning.specs.Documents.{Numbered, breaks_of, document_at}
use Rattle.index_meaning.specs.Index.{terms}
use Rattle.index_meaning.specs.Postings.{places}
use Rattle.index_cursors.specs.SpanHits.{hits_in, words_in}

-- the terms of the documents: their words, each under its key
abbrev pub terms_of : List Numbered → List Entry
terms_of documents = terms key_of documents

-- the term of that number, counted from 0
abbrev pub term_at : ℕ → List Numbered → Entry
term_at number documents = slice_index_or (terms_of documents) number (entry [] [])

-- a hit for each place of the term in the span of a document
abbrev pub term_hits : ℕ → ℕ → Span → List Numbered → List Hit
term_hits term id span documents =
    hits_in (breaks_of (document_at id documents)) span (places (term_at term documents).word (document_at id documents))

-- whether the term stands in the document of that number
abbrev pub stands_in : ℕ → ℕ → List Numbered → Bool
stands_in term id documents = nat_lt 0 (length (places (term_at term documents).word (document_at id documents)))

-- a hit for each place of the span
abbrev pub all_hits : ℕ → Span → List Numbered → List Hit
all_hits id span documents = words_in (breaks_of (document_at id documents)) span
