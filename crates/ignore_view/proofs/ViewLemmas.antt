-- The document that is made of the parts that are kept has the tokens that are kept.
use Rattle.std.proofs.Common.{◌≡◌, ℕ, suc, ◌+◌, ◌-◌, ◌<◌, ◌≤◌, ◌==◌, Bool, true, false, not, cond, zero, List, [], ◌∷◌, map, length, None, refl, ap, sym, ◌∙◌, subst, arith, get_or}
use Rattle.std.specs.List.{All, filter, flat_map, range_with_len}
use Rattle.std.proofs.lemmas.Bool.{cond-true}
use Rattle.std.proofs.lemmas.Bool.Decides.{nat_tests}
use Rattle.std.proofs.lemmas.List.{append-nil, length-map, take_all}
use Rattle.std.proofs.lemmas.List.Elements.{All-filter}
use Rattle.std.proofs.lemmas.List.FromFn.{get_or-range_with_len, length-range_with_len}
use Rattle.std.proofs.lemmas.Simd.{map-map}
use Rattle.ft_base.specs.declared.places.Breaks.{Breaks}
use Rattle.ft_base.specs.declared.span.Span.{Span}
use Rattle.ft_base.specs.declared.token.Token.{Token}
use Rattle.all_matches.specs.Hits.{paragraph_at, sentence_at}
use Rattle.all_matches.specs.Spans.{in_span, places_in, renumbered}
use Rattle.index_cursors.specs.SpanHits.{started}
use Rattle.index_meaning.specs.Documents.{Document, Numbered, document_at, document_of, leaf_of, no_document, numbered, token_count}
use Rattle.index_phrases.specs.Phrases.{words_at}
use Rattle.index_phrases.specs.Tokens.{IsSpan, IsText, span_tokens}
use Rattle.index_phrases.proofs.SpanTokens.{no_token, paragraph_read, sentence_read, tokens_of_text}
use Rattle.ignore_view.specs.Holes.{holes_in, tokens_without, whole_document}
use Rattle.ignore_view.specs.Without.{counted, is_left_out, kept_from}
use Rattle.ignore_view.specs.steps.Kept.{IsPart, changes, kept_places, places_of}
use Rattle.ignore_view.proofs.CountedLemmas.{long-counted, words-counted}
use Rattle.ignore_view.proofs.KeptLemmas.{kept_tokens, part_inside, token_at, word_at, words_of_parts}
use Rattle.ignore_view.proofs.StartLemmas.{number-there}

same-number : (n : ℕ) → (n == n) ≡ true
same-number n = grind (arith, nat_tests)

-- ---- the whole of a document whose tokens are counted from 1

same-tokens : (f g : ℕ → ℕ) → ((n : ℕ) → f n ≡ n) → ((n : ℕ) → g n ≡ n) → (ts : List Token) → map (renumbered f g) ts ≡ ts
same-tokens f g sentence paragraph [] = refl
same-tokens f g sentence paragraph (t ∷ ts) =
    λ i. record { word = t.word; sentence = sentence t.sentence i; paragraph = paragraph t.paragraph i } ∷ same-tokens f g sentence paragraph ts i

module _ (document : Document) where
  as-one : (starts : List ℕ) → 1 ≡ started starts 1 → (n : ℕ) → n - (started starts 1 - 1) ≡ n
  as-one starts one n = omega (arith, one)

  whole-span : (tokens : List Token) → IsText document tokens → IsSpan (whole_document document) document
  whole-span tokens text = record { first = omega arith; order = omega arith; last = omega arith }

  whole-part : (tokens : List Token) → IsText document tokens → in_span (whole_document document) tokens ≡ tokens
  whole-part tokens text =
      let many = length-map tokens (λ (token : Token). token.word) in
      let words = ap length text.words in
      take_all ((token_count document + 1 - 1) - 0) tokens (omega (arith, many, words))

  pub whole-tokens : (kept : List Token) → IsText document (counted kept) → span_tokens (whole_document document) document ≡ counted kept
  whole-tokens [] text =
      tokens_of_text document [] (whole_document document) text (whole-span [] text)
      ∙ ap (map (renumbered (λ n. n - (started document.sentences 1 - 1)) (λ n. n - (started document.paragraphs 1 - 1)))) (whole-part [] text)
  whole-tokens (t ∷ kept) text =
      let all = counted (t ∷ kept) in
      tokens_of_text document all (whole_document document) text (whole-span all text)
      ∙ ap (map (renumbered (λ n. n - (started document.sentences 1 - 1)) (λ n. n - (started document.paragraphs 1 - 1)))) (whole-part all text)
      ∙ same-tokens (λ n. n - (started document.sentences 1 - 1)) (λ n. n - (started document.paragraphs 1 - 1))
      (as-one document.sentences (text.sentences 1 (omega arith) (omega arith)))
      (as-one document.paragraphs (text.paragraphs 1 (omega arith) (omega arith)))
      all

-- ---- no more places are kept than there are

kept-fewer-places : (holes : List Span) (a n : ℕ) → length (filter (λ place. not (is_left_out holes place)) (range_with_len a n)) ≤ n
kept-fewer-places holes a zero = omega arith
kept-fewer-places holes a (suc n) = by (is_left_out holes a) (kept-fewer-places holes (a + 1) n)
  where
    by : (b : Bool) → length (filter (λ place. not (is_left_out holes place)) (range_with_len (a + 1) n)) ≤ n
        → length (cond (not b) (a ∷ filter (λ place. not (is_left_out holes place)) (range_with_len (a + 1) n)) (filter (λ place. not (is_left_out holes place)) (range_with_len (a + 1) n)))
        ≤ suc n
    by true rest = omega (arith, rest)
    by false rest = omega (arith, rest)

pub kept-few : (span : Span) (holes : List Span) → length (kept_places span holes) ≤ span.to - span.from
kept-few span holes = kept-fewer-places holes span.from (span.to - span.from)

-- ---- the document that is made

module _ (document : Document) (span : Span) (holes : List Span) (s : IsSpan span document) where
  abbrev kept : List ℕ
  kept = kept_places span holes

  abbrev pub left : List Token
  left = tokens_without span holes document

  kept-from-first : All (λ place. span.from ≤ place) kept
  kept-from-first =
      All-filter _ (λ place. span.from ≤ place) (places_in span)
      (λ k d h.
      let many = length-range_with_len span.from (span.to - span.from) in
      let is = get_or-range_with_len span.from (span.to - span.from) k d (omega (arith, h, many)) in
      omega (arith, is))

  left-is : left ≡ counted (map (token_at document span holes) kept)
  left-is = ap counted (kept_tokens document span holes s)

  left-words : map (λ (token : Token). token.word) left ≡ map (word_at document) kept
  left-words =
      words-counted (kept_from (holes_in span holes) 1 (span_tokens span document))
      ∙ ap (map (λ (token : Token). token.word)) (kept_tokens document span holes s)
      ∙ map-map (λ (token : Token). token.word) (token_at document span holes) kept

  pub left-many : length left ≡ length kept
  left-many = ap length left-is ∙ long-counted (map (token_at document span holes) kept) ∙ length-map kept (token_at document span holes)

  module _ (parts : List Span) (places : places_of parts ≡ kept) (within : All (IsPart span) parts) where
    pub parts-words : flat_map (λ part. words_at part document) parts ≡ map (λ (token : Token). token.word) left
    parts-words =
        words_of_parts document parts (λ k d h. part_inside document span (get_or parts k d) s (within k d h))
        ∙ ap (map (word_at document)) places
        ∙ sym left-words

    pub parts-many : length (flat_map (λ part. words_at part document) parts) ≡ length left
    parts-many = ap length parts-words ∙ length-map left (λ (token : Token). token.word)

    module _ (breaks : Breaks) (sentences : breaks.sentences ≡ changes None 1 (map (started document.sentences) (places_of parts)))
        (paragraphs : breaks.paragraphs ≡ changes None 1 (map (started document.paragraphs) (places_of parts))) where
      abbrev pub made : Document
      made = document_of (leaf_of 0 (flat_map (λ part. words_at part document) parts) ∷ []) breaks

      pub made-text : IsText made left
      made-text = record {
        words = sym parts-words ∙ sym (append-nil (flat_map (λ part. words_at part document) parts));
        sentences = λ place first last.
            let i = place - 1 in
            let at : place ≡ suc i = omega (arith, first) in
            let next : 1 + i ≡ place = omega (arith, first) in
            let there : i < length left = omega (arith, first, last) in
            let many = left-many in
            ap (sentence_at left) at
            ∙ sentence_read left i there
            ∙ ap (λ ts. (get_or {A = Token} ts i no_token).sentence) left-is
            ∙ number-there (λ token. token.sentence) (λ before told t. refl) (λ t. refl) document.sentences span.from (token_at document span holes) (λ p. refl) kept i kept-from-first (omega (arith, there, many))
            ∙ ap (λ ps. started (changes None 1 (map (started document.sentences) ps)) (1 + i)) (sym places)
            ∙ ap (λ xs. started xs (1 + i)) (sym sentences)
            ∙ ap (started breaks.sentences) next;
        paragraphs = λ place first last.
            let i = place - 1 in
            let at : place ≡ suc i = omega (arith, first) in
            let next : 1 + i ≡ place = omega (arith, first) in
            let there : i < length left = omega (arith, first, last) in
            let many = left-many in
            ap (paragraph_at left) at
            ∙ paragraph_read left i there
            ∙ ap (λ ts. (get_or {A = Token} ts i no_token).paragraph) left-is
            ∙ number-there (λ token. token.paragraph) (λ before told t. refl) (λ t. refl) document.paragraphs span.from (token_at document span holes) (λ p. refl) kept i kept-from-first (omega (arith, there, many))
            ∙ ap (λ ps. started (changes None 1 (map (started document.paragraphs) ps)) (1 + i)) (sym places)
            ∙ ap (λ xs. started xs (1 + i)) (sym paragraphs)
            ∙ ap (started breaks.paragraphs) next;
      }

      pub made-tokens : span_tokens (whole_document made) made ≡ left
      made-tokens = whole-tokens made (kept_from (holes_in span holes) 1 (span_tokens span document)) made-text

      -- ---- the version that has it alone

      module _ (doc : ℕ) (view : List Numbered) (view-is : view ≡ numbered doc made ∷ []) where
        pub document-is : document_at doc view ≡ made
        document-is = ap (document_at doc) view-is ∙ cond-true (doc == doc) made no_document (same-number doc)

        pub view-text : IsText (document_at doc view) left
        view-text = subst (λ d. IsText d left) (sym document-is) made-text

        pub view-tokens : span_tokens (whole_document (document_at doc view)) (document_at doc view) ≡ left
        view-tokens = ap (λ d. span_tokens (whole_document d) d) document-is ∙ made-tokens
