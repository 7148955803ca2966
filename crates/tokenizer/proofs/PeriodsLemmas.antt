-- The starts of sentences under a set of abbreviations: those that stay, and what is known of the last gap.
use Rattle.std.proofs.Common.{◌≡◌, ◌<◌, ◌≤◌, ℕ, ◌+◌, Bool, true, false, not, ◌&&◌, ◌||◌, All, List, [], ◌∷◌, ◌++◌, length, drop, get_or, drop-cons, add-one, refl, sym, ap, ◌∙◌, append_assoc, append-nil, length-append, zero-le, inl, inr, IsUtf8, subst, arith, if◌then◌else◌}
use Rattle.std.proofs.lemmas.Bool.{cases_Bool}
use Rattle.std.proofs.lemmas.List.{drop_all}
use Rattle.std.proofs.lemmas.List.Elements.{All-push}
use Rattle.std.specs.List.{slice_range}
use Rattle.std.specs.Str.{chars}
use Rattle.tokenizer.specs.Parts.{is_abbreviation, without_period}
use Rattle.tokenizer.specs.steps.Behind.{StandsIn, has_word, period_ends, spares}
use Rattle.tokenizer.specs.steps.GapSteps.{after_characters, nothing_seen, sentence_ended, with_period_if}
use Rattle.tokenizer.specs.steps.TextsKnown.{staying}
use Rattle.tokenizer.specs.declared.behind.WordBefore.{WordBefore}
use Rattle.tokenizer.specs.declared.gap.Gap.{Gap}
use Rattle.tokenizer.proofs.GapLemmas.{period-first, with_period-characters}

abbrev pub no_word : WordBefore
no_word = record { from = 0; to = 0 }

-- ---- the last gap

pub with_period_if-characters : (stands : Bool) (gap : Gap) (cs : List ℕ) → after_characters (with_period_if stands gap) cs ≡ with_period_if stands (after_characters gap cs)
with_period_if-characters true gap cs = with_period-characters gap cs
with_period_if-characters false gap cs = refl

pub with_period_if-paragraph : (stands : Bool) (gap : Gap) → (with_period_if stands gap).paragraph_ends ≡ gap.paragraph_ends
with_period_if-paragraph true gap = refl
with_period_if-paragraph false gap = refl

with_period_if-ended : (stands : Bool) (gap : Gap) → sentence_ended (with_period_if stands gap) ≡ (stands || sentence_ended gap)
with_period_if-ended true gap = refl
with_period_if-ended false gap = refl

module _ (abbreviations : List (List ℕ)) (text : List ℕ) (word : WordBefore) where
  pub period_ends-none : has_word word ≡ false → period_ends abbreviations text word ≡ false
  period_ends-none none = rw none refl

  -- characters directly behind a word, which begin with a period
  pub gap-behind : (characters rest : List ℕ) → IsUtf8 characters → characters ≡ 46 ∷ rest → has_word word ≡ true
      → with_period_if (period_ends abbreviations text word) (after_characters nothing_seen (chars rest))
      ≡ after_characters nothing_seen (chars (without_period (spares abbreviations text word) characters))
  gap-behind characters rest u is has =
      elim (cases_Bool (spares abbreviations text word)) [
        | inl spared ↦ rw spared (rw has (ap (λ bytes. after_characters nothing_seen (chars (without_period true bytes))) (sym is)))
        | inr other ↦ rw other (rw has (sym (period-first characters rest u is)))
      ]

-- ---- the starts that stay

pub not-true : (b : Bool) → not b ≡ true → b ≡ false
not-true true h = cc
not-true false h = refl

pub not-false : (b : Bool) → not b ≡ false → b ≡ true
not-false true h = refl
not-false false h = cc

module _ (abbreviations : List (List ℕ)) (text : List ℕ) where
  -- one start more
  staying-push : (places : List ℕ) (words : List WordBefore) → length words ≡ length places → (place : ℕ) (word : WordBefore)
      → staying abbreviations text (places ++ place ∷ []) (words ++ word ∷ []) ≡ staying abbreviations text places words ++ (if spares abbreviations text word then [] else place ∷ [])
  unfolding staying
  staying-push [] [] told place word = append-nil _
  staying-push [] (w ∷ ws) told place word = absurd (omega (arith, told))
  staying-push (p ∷ ps) [] told place word = absurd (omega (arith, told))
  staying-push (p ∷ ps) (w ∷ ws) told place word =
      let first = if spares abbreviations text w then [] else p ∷ [] in
      ap (λ l. first ++ l) (staying-push ps ws (omega (arith, told)) place word) ∙ sym (append_assoc first (staying abbreviations text ps ws) _)

  -- no more stay than there are
  pub staying-few : (places : List ℕ) (words : List WordBefore) → length (staying abbreviations text places words) ≤ length places
  unfolding staying
  staying-few [] ws = zero-le
  staying-few (p ∷ ps) [] = omega arith
  staying-few (p ∷ ps) (w ∷ ws) =
      let few = staying-few ps ws in
      elim (cases_Bool (spares abbreviations text w)) [
        | inl goes ↦ rw goes (omega (arith, few))
        | inr stays ↦ rw stays (omega (arith, few))
      ]

  -- ---- a loop over the starts

  module _ (places : List ℕ) (words : List WordBefore) (i : ℕ) where
    staying-next : i < length places → length places ≤ length words
        → staying abbreviations text (drop i places) (drop i words)
        ≡ (if spares abbreviations text (get_or words i no_word) then [] else get_or places i 0 ∷ []) ++ staying abbreviations text (drop (i + 1) places) (drop (i + 1) words)
    unfolding staying
    staying-next more told =
        let at = drop-cons places i 0 more in
        let word = drop-cons words i no_word (omega (arith, more, told)) in
        (λ j. staying abbreviations text (at j) (word j))
        ∙ ap (λ n. (if spares abbreviations text (get_or words i no_word) then [] else get_or places i 0 ∷ []) ++ staying abbreviations text (drop n places) (drop n words)) (sym (add-one i))

    pub staying-kept : i < length places → length places ≤ length words → spares abbreviations text (get_or words i no_word) ≡ false
        → staying abbreviations text (drop i places) (drop i words) ≡ get_or places i 0 ∷ staying abbreviations text (drop (i + 1) places) (drop (i + 1) words)
    staying-kept more told kept =
        staying-next more told ∙ ap (λ goes. (if goes then [] else get_or places i 0 ∷ []) ++ staying abbreviations text (drop (i + 1) places) (drop (i + 1) words)) kept

    pub staying-left : i < length places → length places ≤ length words → spares abbreviations text (get_or words i no_word) ≡ true
        → staying abbreviations text (drop i places) (drop i words) ≡ staying abbreviations text (drop (i + 1) places) (drop (i + 1) words)
    staying-left more told goes =
        staying-next more told ∙ ap (λ goes. (if goes then [] else get_or places i 0 ∷ []) ++ staying abbreviations text (drop (i + 1) places) (drop (i + 1) words)) goes

    pub staying-done : length places ≤ i → staying abbreviations text (drop i places) (drop i words) ≡ []
    unfolding staying
    staying-done done = ap (λ l. staying abbreviations text l (drop i words)) (drop_all i places done)

  -- ---- a word further: a start is there where the gap ends a sentence

  module _ (places : List ℕ) (words : List WordBefore) (told : length words ≡ length places) (word : WordBefore) (gap : Gap) (place : ℕ) where
    -- by whether the gap ends a sentence without a period directly behind the word, whether there is one, and whether the word is an abbreviation
    further : (ends has is : Bool) → has_word word ≡ has → spares abbreviations text word ≡ (has && is)
        → staying abbreviations text (places ++ (if has || ends then place ∷ [] else [])) (words ++ (if has || ends then (if ends then no_word else word) ∷ [] else []))
        ≡ staying abbreviations text places words ++ (if (has && not (has && is)) || ends then place ∷ [] else [])
    further true true true has spared = staying-push places words told place no_word
    further true true false has spared = staying-push places words told place no_word
    further true false is has spared = staying-push places words told place no_word
    further false true true has spared = staying-push places words told place word ∙ ap (λ s. staying abbreviations text places words ++ (if s then [] else place ∷ [])) spared
    further false true false has spared = staying-push places words told place word ∙ ap (λ s. staying abbreviations text places words ++ (if s then [] else place ∷ [])) spared
    further false false is has spared = (λ j. staying abbreviations text (append-nil places j) (append-nil words j)) ∙ sym (append-nil _)

    pub staying-word : staying abbreviations text (places ++ (if sentence_ended (with_period_if (has_word word) gap) then place ∷ [] else []))
        (words ++ (if sentence_ended (with_period_if (has_word word) gap) then (if sentence_ended gap then no_word else word) ∷ [] else []))
        ≡ staying abbreviations text places words ++ (if sentence_ended (with_period_if (period_ends abbreviations text word) gap) then place ∷ [] else [])
    staying-word =
        rw (with_period_if-ended (has_word word) gap, with_period_if-ended (period_ends abbreviations text word) gap)
        (further (sentence_ended gap) (has_word word) (is_abbreviation abbreviations (slice_range text word.from word.to)) refl refl)

pub length-told : {X Y : Type 0} (ended : Bool) (xs : List X) (ys : List Y) (x : X) (y : Y) → length xs ≡ length ys
    → length (xs ++ (if ended then x ∷ [] else [])) ≡ length (ys ++ (if ended then y ∷ [] else []))
length-told true xs ys x y same = omega (arith, same, length-append xs (x ∷ []), length-append ys (y ∷ []))
length-told false xs ys x y same = ap length (append-nil xs) ∙ same ∙ sym (ap length (append-nil ys))

-- the words that are kept stand in the text, with one more
pub stand-word : (text : List ℕ) (words : List WordBefore) (word : WordBefore) (ended ends : Bool) → All (StandsIn text) words → StandsIn text word
    → All (StandsIn text) (words ++ (if ended then (if ends then no_word else word) ∷ [] else []))
stand-word text words word true true all stands = All-push (StandsIn text) words no_word all (λ has. cc)
stand-word text words word true false all stands = All-push (StandsIn text) words word all stands
stand-word text words word false ends all stands = subst (All (StandsIn text)) (sym (append-nil words)) all
