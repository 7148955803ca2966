-- The tokens of a span, one by one, and as those of a text.
use Rattle.std.proofs.Common.{◌≡◌, refl, ap, sym, ◌∙◌, ℕ, zero, suc, ◌+◌, ◌-◌, ◌<◌, List, [], ◌∷◌, map, length, take, drop, slice_get, get_or, arith, get_or-drop, get_or-take, length-take-le, length-drop}
use Rattle.std.specs.Option.{option_map_or}
use Rattle.std.proofs.lemmas.List.{take-map, drop-map, length-map}
use Rattle.std.proofs.lemmas.Option.{slice_get-get_or}
use Rattle.ft_base.specs.declared.places.Breaks.{Breaks}
use Rattle.ft_base.specs.declared.span.Span.{Span}
use Rattle.ft_base.specs.declared.token.Token.{Token}
use Rattle.all_matches.specs.Hits.{paragraph_at, sentence_at}
use Rattle.all_matches.specs.Spans.{in_span, renumbered}
use Rattle.index_cursors.specs.SpanHits.{started}
use Rattle.index_meaning.specs.Documents.{Document, breaks_of, words_of}
use Rattle.index_phrases.specs.Phrases.{own_number, words_at}
use Rattle.index_phrases.specs.Tokens.{IsSpan, IsText, span_tokens, tokens_from}

pub no_token : Token
no_token = record { word = []; sentence = 0; paragraph = 0 }

-- ---- one by one

module _ (breaks : Breaks) (first : ℕ) where
  abbrev pub token_of : ℕ → List ℕ → Token
  token_of place word = record { word = word; sentence = own_number breaks.sentences first place; paragraph = own_number breaks.paragraphs first place }

  many : (place : ℕ) (words : List (List ℕ)) → length (tokens_from breaks first place words) ≡ length words
  many place [] = refl
  many place (word ∷ words) = ap suc (many (place + 1) words)

  read : (place : ℕ) (words : List (List ℕ)) (i : ℕ) (d : Token) → i < length words
      → get_or (tokens_from breaks first place words) i d ≡ token_of (place + i) (get_or words i [])
  read place [] i d h = absurd (omega (arith, h))
  read place (word ∷ words) zero d h = let at : place ≡ place + 0 = omega arith in ap (λ p. token_of p word) at
  read place (word ∷ words) (suc i) d h =
      let at : place + 1 + i ≡ place + suc i = omega arith in
      read (place + 1) words i d (omega (arith, h)) ∙ ap (λ p. token_of p (get_or words i [])) at

pub words_of_tokens : (breaks : Breaks) (first place : ℕ) (words : List (List ℕ))
    → map (λ (token : Token). token.word) (tokens_from breaks first place words) ≡ words
words_of_tokens breaks first place [] = refl
words_of_tokens breaks first place (word ∷ words) = ap (λ ws. word ∷ ws) (words_of_tokens breaks first (place + 1) words)

-- their words are those of the span
pub words_of_span : (span : Span) (document : Document) → map (λ (token : Token). token.word) (span_tokens span document) ≡ words_at span document
words_of_span span document = words_of_tokens (breaks_of document) span.from span.from (words_at span document)

module _ (span : Span) (document : Document) (s : IsSpan span document) where
  pub words_long : length (words_at span document) ≡ span.to - span.from
  words_long =
      let first = s.first in
      let order = s.order in
      let last = s.last in
      let left = length-drop (span.from - 1) (words_of document) in
      let size = length-take-le ((span.to - 1) - (span.from - 1)) (drop (span.from - 1) (words_of document)) (omega (arith, left, first, order, last)) in
      omega (arith, size, first, order)

  pub tokens_long : length (span_tokens span document) ≡ span.to - span.from
  tokens_long = many (breaks_of document) span.from span.from (words_at span document) ∙ words_long

  pub token_there : (i : ℕ) (d : Token) → i < span.to - span.from
      → get_or (span_tokens span document) i d ≡ token_of (breaks_of document) span.from (span.from + i) (get_or (words_at span document) i [])
  token_there i d h = let long = words_long in read (breaks_of document) span.from span.from (words_at span document) i d (omega (arith, h, long))

-- ---- the number of the token at a place

pub sentence_read : (tokens : List Token) (i : ℕ) → i < length tokens → sentence_at tokens (suc i) ≡ (get_or tokens i no_token).sentence
sentence_read tokens i h =
    let at : suc i - 1 ≡ i = omega arith in
    ap (λ o. option_map_or (λ (token : Token). token.sentence) o 0) (ap (slice_get tokens) at ∙ slice_get-get_or tokens i no_token h)

pub paragraph_read : (tokens : List Token) (i : ℕ) → i < length tokens → paragraph_at tokens (suc i) ≡ (get_or tokens i no_token).paragraph
paragraph_read tokens i h =
    let at : suc i - 1 ≡ i = omega arith in
    ap (λ o. option_map_or (λ (token : Token). token.paragraph) o 0) (ap (slice_get tokens) at ∙ slice_get-get_or tokens i no_token h)

-- ---- as those of a text

module _ (breaks : Breaks) (first : ℕ) where
  abbrev own_sentence : ℕ → ℕ
  own_sentence n = n - (started breaks.sentences first - 1)

  abbrev own_paragraph : ℕ → ℕ
  own_paragraph n = n - (started breaks.paragraphs first - 1)

  renumber : (ts : List Token) (place : ℕ) → ((i : ℕ) → i < length ts → (get_or ts i no_token).sentence ≡ started breaks.sentences (place + i))
      → ((i : ℕ) → i < length ts → (get_or ts i no_token).paragraph ≡ started breaks.paragraphs (place + i))
      → tokens_from breaks first place (map (λ (token : Token). token.word) ts) ≡ map (renumbered own_sentence own_paragraph) ts
  renumber [] place sentences paragraphs = refl
  renumber (t ∷ ts) place sentences paragraphs =
      let at : place + 0 ≡ place = omega arith in
      let sentence : started breaks.sentences place ≡ t.sentence = sym (sentences 0 (omega arith) ∙ ap (started breaks.sentences) at) in
      let paragraph : started breaks.paragraphs place ≡ t.paragraph = sym (paragraphs 0 (omega arith) ∙ ap (started breaks.paragraphs) at) in
      λ j. record { word = t.word; sentence = own_sentence (sentence j); paragraph = own_paragraph (paragraph j) }
      ∷ renumber ts (place + 1)
      (λ i h. let next : place + suc i ≡ place + 1 + i = omega arith in sentences (suc i) (omega (arith, h)) ∙ ap (started breaks.sentences) next)
      (λ i h. let next : place + suc i ≡ place + 1 + i = omega arith in paragraphs (suc i) (omega (arith, h)) ∙ ap (started breaks.paragraphs) next)
      j

module _ (document : Document) (tokens : List Token) (span : Span) (text : IsText document tokens) (s : IsSpan span document) where
  abbrev size : ℕ
  size = (span.to - 1) - (span.from - 1)

  part_words : words_at span document ≡ map (λ (token : Token). token.word) (in_span span tokens)
  part_words =
      ap (λ ws. take size (drop (span.from - 1) ws)) (sym text.words)
      ∙ ap (take size) (drop-map (λ (token : Token). token.word) (span.from - 1) tokens)
      ∙ take-map (λ (token : Token). token.word) size (drop (span.from - 1) tokens)

  long : length tokens ≡ length (words_of document)
  long = sym (length-map tokens (λ (token : Token). token.word)) ∙ ap length text.words

  part_long : length (in_span span tokens) ≡ size
  part_long =
      let first = s.first in
      let order = s.order in
      let last = s.last in
      let all = long in
      let left = length-drop (span.from - 1) tokens in
      length-take-le size (drop (span.from - 1) tokens) (omega (arith, left, first, order, last, all))

  -- the token of a place of the span
  part_read : (i : ℕ) → i < length (in_span span tokens) → get_or (in_span span tokens) i no_token ≡ get_or tokens ((span.from - 1) + i) no_token
  part_read i h = let much = part_long in get_or-take size (drop (span.from - 1) tokens) i no_token (omega (arith, h, much)) ∙ get_or-drop (span.from - 1) tokens i no_token

  there : (i : ℕ) → i < length (in_span span tokens) → (span.from - 1) + i < length tokens
  there i h =
      let first = s.first in
      let order = s.order in
      let last = s.last in
      let all = long in
      let much = part_long in
      omega (arith, h, much, first, order, last, all)

  place_of_part : (i : ℕ) → suc ((span.from - 1) + i) ≡ span.from + i
  place_of_part i = let first = s.first in omega (arith, first)

  pub part_sentence : (i : ℕ) → i < length (in_span span tokens)
      → (get_or (in_span span tokens) i no_token).sentence ≡ started document.sentences (span.from + i)
  part_sentence i h =
      let within = there i h in
      ap (λ (token : Token). token.sentence) (part_read i h)
      ∙ sym (sentence_read tokens ((span.from - 1) + i) within)
      ∙ text.sentences (suc ((span.from - 1) + i)) (omega arith) (omega (arith, within))
      ∙ ap (started document.sentences) (place_of_part i)

  pub part_paragraph : (i : ℕ) → i < length (in_span span tokens)
      → (get_or (in_span span tokens) i no_token).paragraph ≡ started document.paragraphs (span.from + i)
  part_paragraph i h =
      let within = there i h in
      ap (λ (token : Token). token.paragraph) (part_read i h)
      ∙ sym (paragraph_read tokens ((span.from - 1) + i) within)
      ∙ text.paragraphs (suc ((span.from - 1) + i)) (omega arith) (omega (arith, within))
      ∙ ap (started document.paragraphs) (place_of_part i)

  pub tokens_of_text : span_tokens span document ≡ map (renumbered (own_sentence (breaks_of document) span.from) (own_paragraph (breaks_of document) span.from)) (in_span span tokens)
  tokens_of_text =
      ap (tokens_from (breaks_of document) span.from span.from) part_words
      ∙ renumber (breaks_of document) span.from (in_span span tokens) span.from part_sentence part_paragraph
