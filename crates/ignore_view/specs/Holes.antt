-- Holes in a span of a document, told in the numbers of the span, and the document that is left.
use Rattle.std.specs.Prelude.{◌+◌, ◌-◌, List, map}
use Rattle.ft_base.specs.declared.span.Span.{Span}
use Rattle.ft_base.specs.declared.token.Token.{Token}
use Rattle.index_meaning.specs.Documents.{Document, token_count}
use Rattle.index_phrases.specs.Tokens.{span_tokens}
use Rattle.ignore_view.specs.Without.{without}

-- a hole of a document in the numbers of the span, of whose places the first is 1. What of it is before the span is left out
abbrev pub hole_in : Span → Span → Span
hole_in span hole = record { from = hole.from - (span.from - 1); to = hole.to - (span.from - 1) }

abbrev pub holes_in : Span → List Span → List Span
holes_in span holes = map (hole_in span) holes

-- the span of all words of a document
abbrev pub whole_document : Document → Span
whole_document document = record { from = 1; to = token_count document + 1 }

-- the tokens of a span of a document without those in holes of the document
abbrev pub tokens_without : Span → List Span → Document → List Token
tokens_without span holes document = without (span_tokens span document) (holes_in span holes)
