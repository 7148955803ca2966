-- The document that follows a tree under abbreviations has the tree's tokens under them as its text, and at the span of a node the node's own tokens.
use Rattle.std.proofs.Common.{◌≡◌, ◌∙◌, sym, ap, refl, subst, ℕ, zero, suc, ◌+◌, ◌-◌, ◌<◌, ◌≤◌, ◌==◌, Bool, true, false, ◌&&◌, if◌then◌else◌, List, [], ◌∷◌, ◌++◌, cond, length, map, zero-add, arith}
use Rattle.std.specs.Prelude.{⊤, nat_le}
use Rattle.std.specs.List.{All, slice_get}
use Rattle.std.specs.Option.{option_map_or}
use Rattle.std.proofs.lemmas.Bool.{and_from, cond-false, cond-true, eq-eqb, le-leb, lt-leb, or_left, or_right}
use Rattle.std.proofs.lemmas.Bool.Decides.{nat_tests}
use Rattle.std.proofs.lemmas.List.Elements.{All-cons, All-drop, All-head, All-nil, All-take}
use Rattle.std.proofs.lemmas.List.Recursion.{is_count_by}
use Rattle.ft_base.specs.declared.span.Span.{Span}
use Rattle.ft_base.specs.declared.token.Token.{Token}
use Rattle.all_matches.specs.Hits.{paragraph_at, sentence_at}
use Rattle.all_matches.specs.Spans as spans
use Rattle.all_matches.specs.Spans.{in_span}
use Rattle.ignore_view.specs.Without.{are_counted, are_counted_after, follows_on}
use Rattle.index_cursors.specs.SpanHits.{started}
use Rattle.index_meaning.specs.Documents.{Document, words_of}
use Rattle.index_phrases.specs.Tokens.{IsText, span_tokens}
use Rattle.index_updates.specs.Follows.{tree_document}
use Rattle.ordered_tree.specs.Numbered.{Numbered, plain}
use Rattle.ordered_tree.specs.Part.{counted_from, part, renumbered}
use Rattle.plain_tree.specs.Document.{Node}
use Rattle.tokenizer.specs.Gaps.{gap, ends_paragraph, ends_sentence}
use Rattle.tokenizer.specs.Parts.{Part, word, gap_characters, gap_tag, parts}
use Rattle.tokenizer.specs.Tokens.{paragraph_starts, shifted, sentence_starts, starts, tokens, tokens_from}

-- ---- the number of a token is how many sentences or paragraphs start up to its place

-- each number is the one before it or the next
abbrev Rises : (Token → ℕ) → ℕ → List Token → Type 0
Rises number before [] = ⊤
Rises number before (token ∷ rest) = (before ≤ number token) × (number token ≤ before + 1) × Rises number (number token) rest

-- how many places are at most this one
abbrev up_to : ℕ → List ℕ → ℕ
up_to place [] = 0
up_to place (start ∷ starts) = cond (nat_le start place) (1 + up_to place starts) (up_to place starts)

all-up_to : (place : ℕ) (xs : List ℕ) → 0 + up_to place xs ≡ started xs place
all-up_to place xs = zero-add (up_to place xs) ∙ is_count_by (up_to place) (λ start. nat_le start place) refl (λ x xs. refl) xs

module _ (number : Token → ℕ) where
  none-up_to : (last before place : ℕ) (ts : List Token) → last < place → up_to last (starts number before place ts) ≡ 0
  unfolding starts
  none-up_to last before place [] h = refl
  none-up_to last before place (t ∷ ts) h = by (number t == before) (none-up_to last (number t) (place + 1) ts (omega (arith, h)))
    where
      by : (same : Bool) → up_to last (starts number (number t) (place + 1) ts) ≡ 0
          → up_to last ((if same then [] else place ∷ []) ++ starts number (number t) (place + 1) ts) ≡ 0
      by true rest = rest
      by false rest =
          let suffix = up_to last (starts number (number t) (place + 1) ts) in
          cond-false (nat_le place last) (1 + suffix) suffix (lt-leb place last h) ∙ rest

  number-up_to : (before place : ℕ) (ts : List Token) (i : ℕ) → Rises number before ts → i < length ts
      → option_map_or number (slice_get ts i) 0 ≡ before + up_to (place + i) (starts number before place ts)
  unfolding starts
  number-up_to before place [] i rises h = absurd (omega (arith, h))
  number-up_to before place (t ∷ ts) zero rises h =
      by (number t == before) refl (none-up_to (place + 0) (number t) (place + 1) ts (omega arith))
    where
      by : (same : Bool) → (number t == before) ≡ same → up_to (place + 0) (starts number (number t) (place + 1) ts) ≡ 0
          → number t ≡ before + up_to (place + 0) ((if same then [] else place ∷ []) ++ starts number (number t) (place + 1) ts)
      by true e none = grind (arith, nat_tests, e, none)
      by false e none =
          let least = rises.0 in
          let most = rises.1 in
          let next : number t ≡ before + 1 = grind (arith, nat_tests, e, least, most) in
          let suffix = up_to (place + 0) (starts number (number t) (place + 1) ts) in
          let one = cond-true (nat_le place (place + 0)) (1 + suffix) suffix (le-leb place (place + 0) (omega arith)) in
          omega (arith, next, one, none)
  number-up_to before place (t ∷ ts) (suc i) rises h =
      let at : place + 1 + i ≡ place + suc i = omega arith in
      by (number t == before) refl
      (number-up_to (number t) (place + 1) ts i rises.2 (omega (arith, h)) ∙ ap (λ p. number t + up_to p (starts number (number t) (place + 1) ts)) at)
    where
      by : (same : Bool) → (number t == before) ≡ same
          → option_map_or number (slice_get ts i) 0 ≡ number t + up_to (place + suc i) (starts number (number t) (place + 1) ts)
          → option_map_or number (slice_get ts i) 0 ≡ before + up_to (place + suc i) ((if same then [] else place ∷ []) ++ starts number (number t) (place + 1) ts)
      by true e rest = grind (arith, nat_tests, e, rest)
      by false e rest =
          let least = rises.0 in
          let most = rises.1 in
          let next : number t ≡ before + 1 = grind (arith, nat_tests, e, least, most) in
          let suffix = up_to (place + suc i) (starts number (number t) (place + 1) ts) in
          let one = cond-true (nat_le place (place + suc i)) (1 + suffix) suffix (le-leb place (place + suc i) (omega arith)) in
          omega (arith, next, one, rest)

-- ---- the tokens of a document rise, from 1 on

shifted-from : (ended : Bool) (n : ℕ) → n ≤ shifted ended n
shifted-from true n = omega arith
shifted-from false n = omega arith

shifted-to : (ended : Bool) (n : ℕ) → shifted ended n ≤ n + 1
shifted-to true n = omega arith
shifted-to false n = omega arith

sentences-rise : (xs : List Part) (s p before : ℕ) → before ≤ s → s ≤ before + 1 → Rises (λ token. token.sentence) before (tokens_from s p xs)
unfolding tokens_from
sentences-rise [] s p before least most = tt
sentences-rise (word bytes ∷ xs) s p before least most =
    (least, most, sentences-rise xs _ _ s (shifted-from (ends_sentence (gap xs)) s) (shifted-to (ends_sentence (gap xs)) s))
sentences-rise (gap_characters bytes ∷ xs) s p before least most = sentences-rise xs s p before least most
sentences-rise (gap_tag name ∷ xs) s p before least most = sentences-rise xs s p before least most

paragraphs-rise : (xs : List Part) (s p before : ℕ) → before ≤ p → p ≤ before + 1 → Rises (λ token. token.paragraph) before (tokens_from s p xs)
unfolding tokens_from
paragraphs-rise [] s p before least most = tt
paragraphs-rise (word bytes ∷ xs) s p before least most =
    (least, most, paragraphs-rise xs _ _ p (shifted-from (ends_paragraph (gap xs)) p) (shifted-to (ends_paragraph (gap xs)) p))
paragraphs-rise (gap_characters bytes ∷ xs) s p before least most = paragraphs-rise xs s p before least most
paragraphs-rise (gap_tag name ∷ xs) s p before least most = paragraphs-rise xs s p before least most

-- both are 1 at least
record IsCounted (token : Token) : Type 0 where
  sentence : 1 ≤ token.sentence
  paragraph : 1 ≤ token.paragraph

are-counted : (xs : List Part) (s p : ℕ) → 1 ≤ s → 1 ≤ p → All IsCounted (tokens_from s p xs)
unfolding tokens_from
are-counted [] s p hs hp = All-nil IsCounted
are-counted (word bytes ∷ xs) s p hs hp =
    let more = shifted-from (ends_sentence (gap xs)) s in
    let further = shifted-from (ends_paragraph (gap xs)) p in
    All-cons IsCounted _ _ (record { sentence = hs; paragraph = hp }) (are-counted xs _ _ (omega (arith, hs, more)) (omega (arith, hp, further)))
are-counted (gap_characters bytes ∷ xs) s p hs hp = are-counted xs s p hs hp
are-counted (gap_tag name ∷ xs) s p hs hp = are-counted xs s p hs hp

-- ---- the text of a tree

pub text-of-tree : (abbreviations : List (List ℕ)) (root : Numbered) → map (λ token. token.word) (tokens abbreviations (plain root)) ≡ words_of (tree_document abbreviations root)
    → IsText (tree_document abbreviations root) (tokens abbreviations (plain root))
unfolding tree_document tokens
text-of-tree abbreviations root same = record {
  words = same;
  sentences = λ place first last.
      let i = place - 1 in
      let next : 1 + i ≡ place = omega (arith, first) in
      let there : i < length (tokens abbreviations (plain root)) = omega (arith, first, last) in
      number-up_to (λ token. token.sentence) 0 1 (tokens abbreviations (plain root)) i (sentences-rise (parts abbreviations (plain root)) 1 1 0 (omega arith) (omega arith)) there
      ∙ all-up_to (1 + i) (sentence_starts (tokens abbreviations (plain root)))
      ∙ ap (started (sentence_starts (tokens abbreviations (plain root)))) next;
  paragraphs = λ place first last.
      let i = place - 1 in
      let next : 1 + i ≡ place = omega (arith, first) in
      let there : i < length (tokens abbreviations (plain root)) = omega (arith, first, last) in
      number-up_to (λ token. token.paragraph) 0 1 (tokens abbreviations (plain root)) i (paragraphs-rise (parts abbreviations (plain root)) 1 1 0 (omega arith) (omega arith)) there
      ∙ all-up_to (1 + i) (paragraph_starts (tokens abbreviations (plain root)))
      ∙ ap (started (paragraph_starts (tokens abbreviations (plain root)))) next;
}

-- ---- the tokens at the span of a node

module _ (f g : ℕ → ℕ) (first : Token) where
  counted-each : (ts : List Token) → ((n : ℕ) → f n ≡ n + 1 - first.sentence) → ((n : ℕ) → g n ≡ n + 1 - first.paragraph)
      → map (spans.renumbered f g) ts ≡ map (counted_from first) ts
  counted-each [] sentence paragraph = refl
  counted-each (t ∷ ts) sentence paragraph =
      λ i. record { word = t.word; sentence = sentence t.sentence i; paragraph = paragraph t.paragraph i } ∷ counted-each ts sentence paragraph i

from-first : (n first start : ℕ) → first ≡ start → 1 ≤ first → n - (start - 1) ≡ n + 1 - first
from-first n first start same least = omega (arith, same, least)

module _ (abbreviations : List (List ℕ)) (root : Numbered) (at : Span) where
  abbrev document : Document
  document = tree_document abbreviations root

  abbrev all : List Token
  all = tokens abbreviations (plain root)

  abbrev own_sentence : ℕ → ℕ
  own_sentence n = n - (started document.sentences at.from - 1)

  abbrev own_paragraph : ℕ → ℕ
  own_paragraph n = n - (started document.paragraphs at.from - 1)

  abbrev own : List Token → List Token
  own = map (spans.renumbered own_sentence own_paragraph)

  part-counted : All IsCounted (in_span at all)
  unfolding tokens
  part-counted =
      All-take IsCounted (at.to - 1 - (at.from - 1)) _ (All-drop IsCounted (at.from - 1) all (are-counted (parts abbreviations (plain root)) 1 1 (omega arith) (omega arith)))

  -- the tokens in the document's numbers are those of the part in its own, by the numbers of the first one
  own-part : (ts : List Token) → in_span at all ≡ ts
      → (0 < length (in_span at all) → sentence_at (in_span at all) 1 ≡ started document.sentences (at.from + 0))
      → (0 < length (in_span at all) → paragraph_at (in_span at all) 1 ≡ started document.paragraphs (at.from + 0)) → own ts ≡ renumbered ts
  own-part [] is sentences paragraphs = refl
  own-part (first ∷ rest) is sentences paragraphs =
      let size : length (in_span at all) ≡ suc (length rest) = ap length is in
      let there : 0 < length (in_span at all) = omega (arith, size) in
      let prefix : at.from + 0 ≡ at.from = omega arith in
      let least = All-head IsCounted first rest (subst (All IsCounted) is part-counted) in
      let sentence : first.sentence ≡ started document.sentences at.from = ap (λ ts. sentence_at ts 1) (sym is) ∙ (sentences there ∙ ap (started document.sentences) prefix) in
      let paragraph : first.paragraph ≡ started document.paragraphs at.from = ap (λ ts. paragraph_at ts 1) (sym is) ∙ (paragraphs there ∙ ap (started document.paragraphs) prefix) in
      counted-each own_sentence own_paragraph first (first ∷ rest)
      (λ n. from-first n first.sentence (started document.sentences at.from) sentence least.sentence)
      (λ n. from-first n first.paragraph (started document.paragraphs at.from) paragraph least.paragraph)

  pub tokens-of-span : span_tokens at document ≡ own (in_span at all)
      → (0 < length (in_span at all) → sentence_at (in_span at all) 1 ≡ started document.sentences (at.from + 0))
      → (0 < length (in_span at all) → paragraph_at (in_span at all) 1 ≡ started document.paragraphs (at.from + 0)) → span_tokens at document ≡ part all at
  tokens-of-span told sentences paragraphs = told ∙ own-part (in_span at all) refl sentences paragraphs

-- ---- the tokens of a node are counted from 1, each one from the one before it

follows-shifted : (ended : Bool) (n : ℕ) → follows_on n (shifted ended n) ≡ true
follows-shifted true n = or_right (n + 1 == n) (n + 1 == n + 1) (eq-eqb (n + 1) (n + 1) refl)
follows-shifted false n = or_left (n == n) (n == n + 1) (eq-eqb n n refl)

counted-after : (xs : List Part) (s p : ℕ) (before : Token) → follows_on before.sentence s ≡ true → follows_on before.paragraph p ≡ true
    → are_counted_after before (tokens_from s p xs) ≡ true
unfolding tokens_from
counted-after [] s p before hs hp = refl
counted-after (word bytes ∷ xs) s p before hs hp =
    and_from (follows_on before.sentence s && follows_on before.paragraph p) _ (and_from (follows_on before.sentence s) (follows_on before.paragraph p) hs hp)
    (counted-after xs _ _ (record { word = bytes; sentence = s; paragraph = p }) (follows-shifted (ends_sentence (gap xs)) s) (follows-shifted (ends_paragraph (gap xs)) p))
counted-after (gap_characters bytes ∷ xs) s p before hs hp = counted-after xs s p before hs hp
counted-after (gap_tag name ∷ xs) s p before hs hp = counted-after xs s p before hs hp

are-counted-from : (xs : List Part) → are_counted (tokens_from 1 1 xs) ≡ true
unfolding tokens_from
are-counted-from [] = refl
are-counted-from (word bytes ∷ xs) =
    counted-after xs _ _ (record { word = bytes; sentence = 1; paragraph = 1 }) (follows-shifted (ends_sentence (gap xs)) 1) (follows-shifted (ends_paragraph (gap xs)) 1)
are-counted-from (gap_characters bytes ∷ xs) = are-counted-from xs
are-counted-from (gap_tag name ∷ xs) = are-counted-from xs

pub tokens-counted : (abbreviations : List (List ℕ)) (n : Node) → are_counted (tokens abbreviations n) ≡ true
unfolding tokens
tokens-counted abbreviations n = are-counted-from (parts abbreviations n)
