-- A span of a document of a version.
use Rattle.std.specs.Prelude.{◌≡◌, ℕ, true, List}
use Rattle.ft_base.specs.declared.span.Span.{Span}
use Rattle.ft_base.specs.declared.token.Token.{Token}
use Rattle.index_meaning.specs.Documents.{Numbered, document_at, has_document}
use Rattle.index_phrases.specs.Phrases.{words_at}
use Rattle.index_phrases.specs.Tokens.{IsSpan, span_tokens}

pub record AskedSpan : Type 0 where
  pub doc : ℕ
  pub span : Span

-- the document is there, and the span is one of its words
pub record IsAsked (version : List Numbered) (asked : AskedSpan) : Type 0 where
  pub there : has_document asked.doc version ≡ true
  pub inside : IsSpan asked.span (document_at asked.doc version)

-- its words, and its tokens
abbrev pub words_in : List Numbered → AskedSpan → List (List ℕ)
words_in version asked = words_at asked.span (document_at asked.doc version)

abbrev pub tokens_in : List Numbered → AskedSpan → List Token
tokens_in version asked = span_tokens asked.span (document_at asked.doc version)
