-- The tokens of a span by their places: those that are kept stand at the places that are kept, and their words are those of the parts.
use Rattle.std.proofs.Common.{◌≡◌, ℕ, zero, suc, ◌+◌, ◌-◌, ◌<◌, Bool, true, false, not, cond, if◌then◌else◌, List, [], ◌∷◌, ◌++◌, map, drop, get_or, refl, ap, sym, ◌∙◌, arith, get_or-drop, get_or-take}
use Rattle.std.specs.List.{All, filter, flat_map, range_with_len}
use Rattle.std.proofs.lemmas.List.{ext_get_or, map-append}
use Rattle.std.proofs.lemmas.List.Elements.{All-head, All-tail}
use Rattle.std.proofs.lemmas.List.FromFn.{get_or-map-range_with_len, length-map-range_with_len}
use Rattle.ft_base.specs.declared.span.Span.{Span}
use Rattle.ft_base.specs.declared.token.Token.{Token}
use Rattle.all_matches.specs.Spans.{places_in}
use Rattle.index_meaning.specs.Documents.{Document, breaks_of, words_of}
use Rattle.index_phrases.specs.Phrases.{words_at}
use Rattle.index_phrases.specs.Tokens.{IsSpan, span_tokens, tokens_from}
use Rattle.index_phrases.proofs.SpanTokens.{token_of, words_long}
use Rattle.ignore_view.specs.Holes.{holes_in}
use Rattle.ignore_view.specs.Without.{is_left_out, kept_from}
use Rattle.ignore_view.specs.steps.Kept.{IsPart, kept_places, places_of}
use Rattle.ignore_view.proofs.HoleLemmas.{moved}

module _ (document : Document) where
  abbrev pub word_at : ℕ → List ℕ
  word_at place = get_or (words_of document) (place - 1) []

  pub words_of_part : (part : Span) → IsSpan part document → words_at part document ≡ map word_at (places_in part)
  words_of_part part s =
      let first = s.first in
      let order = s.order in
      let size = part.to - part.from in
      let many = words_long part document s in
      ext_get_or [] (words_at part document) (map word_at (places_in part)) (many ∙ sym (length-map-range_with_len word_at part.from size))
      (λ i h.
      let there : i < size = omega (arith, h, many) in
      let within : i < (part.to - 1) - (part.from - 1) = omega (arith, there, first, order) in
      let at : (part.from - 1) + i ≡ part.from + i - 1 = omega (arith, first) in
      get_or-take ((part.to - 1) - (part.from - 1)) (drop (part.from - 1) (words_of document)) i [] within
      ∙ get_or-drop (part.from - 1) (words_of document) i []
      ∙ ap (λ n. get_or (words_of document) n []) at
      ∙ sym (get_or-map-range_with_len word_at part.from size i (part.from + i) [] there refl))

  pub words_of_parts : (parts : List Span) → All (λ part. IsSpan part document) parts
      → flat_map (λ part. words_at part document) parts ≡ map word_at (places_of parts)
  words_of_parts [] all = refl
  words_of_parts (part ∷ parts) all =
      let one = words_of_part part (All-head (λ p. IsSpan p document) part parts all) in
      let rest = words_of_parts parts (All-tail (λ p. IsSpan p document) part parts all) in
      (λ i. one i ++ rest i) ∙ sym (map-append word_at (places_in part) (places_of parts))

  pub part_inside : (span part : Span) → IsSpan span document → IsPart span part → IsSpan part document
  part_inside span part s p =
      let first = s.first in
      let last = s.last in
      let from = p.first in
      let order = p.order in
      let to = p.last in
      record { first = omega (arith, first, from); order = order; last = omega (arith, last, to) }

-- ---- the tokens that are kept

module _ (document : Document) (span : Span) (holes : List Span) where
  abbrev pub token_at : ℕ → Token
  token_at place = token_of (breaks_of document) span.from place (word_at document place)

  tokens_of_words : (place n : ℕ) → tokens_from (breaks_of document) span.from place (map (word_at document) (range_with_len place n)) ≡ map token_at (range_with_len place n)
  tokens_of_words place zero = refl
  tokens_of_words place (suc n) = ap (λ rest. token_at place ∷ rest) (tokens_of_words (place + 1) n)

  kept_of_places : (own place n : ℕ) → place ≡ own + (span.from - 1)
      → kept_from (holes_in span holes) own (map token_at (range_with_len place n)) ≡ map token_at (filter (λ p. not (is_left_out holes p)) (range_with_len place n))
  kept_of_places own place zero at = refl
  kept_of_places own place (suc n) at =
      let same : is_left_out (holes_in span holes) own ≡ is_left_out holes place = moved span holes own ∙ ap (is_left_out holes) (sym at) in
      let kept = kept_from (holes_in span holes) (own + 1) (map token_at (range_with_len (place + 1) n)) in
      ap (λ b. if b then kept else token_at place ∷ kept) same ∙ by (is_left_out holes place) (kept_of_places (own + 1) (place + 1) n (omega (arith, at)))
    where
      by : (b : Bool)
          → kept_from (holes_in span holes) (own + 1) (map token_at (range_with_len (place + 1) n))
          ≡ map token_at (filter (λ p. not (is_left_out holes p)) (range_with_len (place + 1) n))
          → (if b then kept_from (holes_in span holes) (own + 1) (map token_at (range_with_len (place + 1) n))
          else token_at place ∷ kept_from (holes_in span holes) (own + 1) (map token_at (range_with_len (place + 1) n)))
          ≡ map token_at (cond (not b) (place ∷ filter (λ p. not (is_left_out holes p)) (range_with_len (place + 1) n)) (filter (λ p. not (is_left_out holes p)) (range_with_len (place + 1) n)))
      by true rest = rest
      by false rest = ap (λ ts. token_at place ∷ ts) rest

  pub kept_tokens : IsSpan span document → kept_from (holes_in span holes) 1 (span_tokens span document) ≡ map token_at (kept_places span holes)
  kept_tokens s =
      let first = s.first in
      let at : span.from ≡ 1 + (span.from - 1) = omega (arith, first) in
      ap (λ ws. kept_from (holes_in span holes) 1 (tokens_from (breaks_of document) span.from span.from ws)) (words_of_part document span s)
      ∙ ap (kept_from (holes_in span holes) 1) (tokens_of_words span.from (span.to - span.from))
      ∙ kept_of_places 1 span.from (span.to - span.from) at
