-- Parts of a text, and hits told in the numbers of a part.
use Rattle.std.specs.Prelude.{ℕ, suc, ◌-◌, Bool, ◌&&◌, nat_lt, nat_le, List, length, slice_range}
use Rattle.std.specs.List.{range_with_len}
use Rattle.ft_base.specs.declared.hit.Hit.{Hit}
use Rattle.ft_base.specs.declared.span.Span.{Span}
use Rattle.ft_base.specs.declared.token.Token.{Token}

-- a token whose sentence and paragraph have other numbers
abbrev pub renumbered : (ℕ → ℕ) → (ℕ → ℕ) → Token → Token
renumbered sentences paragraphs token = record { word = token.word; sentence = sentences token.sentence; paragraph = paragraphs token.paragraph }

-- the span of a whole text
abbrev pub whole_text : List Token → Span
whole_text tokens = record { from = 1; to = suc (length tokens) }

-- the places of a span
abbrev pub places_in : Span → List ℕ
places_in span = range_with_len span.from (span.to - span.from)

-- the tokens at the places of a span
abbrev pub in_span : Span → List Token → List Token
in_span span tokens = slice_range tokens (span.from - 1) (span.to - 1)

abbrev pub lies_in_span : Span → Hit → Bool
lies_in_span span hit = nat_le span.from hit.from && nat_lt hit.to span.to

-- a hit of the text, its places counted from the first of the span
abbrev pub told_in_span : (ℕ → ℕ) → (ℕ → ℕ) → Span → Hit → Hit
told_in_span sentences paragraphs span hit = record {
  query = hit.query;
  from = hit.from - (span.from - 1);
  to = hit.to - (span.from - 1);
  sent_from = sentences hit.sent_from;
  sent_to = sentences hit.sent_to;
  para_from = paragraphs hit.para_from;
  para_to = paragraphs hit.para_to;
  whole = hit.whole;
}
