-- What is known of a text while it is read, one segment further, under each set of abbreviations.
use Rattle.std.proofs.Common.{◌≡◌, ◌<◌, ℕ, ◌+◌, ◌-◌, ◌==◌, Bool, true, false, List, [], ◌∷◌, ◌++◌, length, refl, sym, ap, subst, ◌∙◌, append-nil, length-append, arith, if◌then◌else◌}
use Rattle.std.proofs.lemmas.List.Elements.{All-same}
use Rattle.std.specs.Str.{chars}
use Rattle.tokenizer.specs.Parts.{Part, gap_characters, parts_of_text, word}
use Rattle.tokenizer.specs.Tokens.{shifted}
use Rattle.tokenizer.specs.steps.Begun.{Begun}
use Rattle.tokenizer.specs.steps.Behind.{StandsIn, has_word, period_ends}
use Rattle.tokenizer.specs.steps.GapSteps.{after_characters, sentence_ended, with_period_if}
use Rattle.tokenizer.specs.steps.Numbering.{after_word, nothing_passed}
use Rattle.tokenizer.specs.steps.TextsKnown.{Reads, WordsStandIn, gap_under, known_under, sentences_under, staying}
use Rattle.tokenizer.specs.declared.text_starts.TextStarts.{TextStarts}
use Rattle.tokenizer.proofs.BegunLemmas.{new_start}
use Rattle.tokenizer.proofs.KnownLemmas.{Leads-after, Leads-word}
use Rattle.tokenizer.proofs.PeriodsLemmas.{length-told, no_word, period_ends-none, stand-word, staying-word, with_period_if-paragraph}

-- ---- characters in the last gap

module _ (text : List ℕ) (left : List (List ℕ) → List Part) (old new : TextStarts) (before : new.before ≡ old.before) (by_period : new.by_period.items ≡ old.by_period.items)
    (words : new.after.words ≡ old.after.words) (breaks : new.after.breaks ≡ old.after.breaks) (paragraph : new.after.last.paragraph ≡ old.after.last.paragraph) (stand : WordsStandIn text new) where
  sentences_same : (abbreviations : List (List ℕ)) → sentences_under abbreviations text new ≡ sentences_under abbreviations text old
  sentences_same abbreviations = λ i. staying abbreviations text ((breaks i).sentences) (by_period i)

  pub Reads-gap : (characters : List (List ℕ) → List ℕ) → 0 < old.after.words
      → ((abbreviations : List (List ℕ)) → gap_under abbreviations text new ≡ after_characters (gap_under abbreviations text old) (chars (characters abbreviations)))
      → Reads text old (λ abbreviations. gap_characters (characters abbreviations) ∷ left abbreviations) → Reads text new left
  Reads-gap characters some gaps reads = record {
    told = ap length by_period ∙ reads.told ∙ sym (ap (λ b. length b.sentences) breaks);
    stand = stand;
    leads = λ abbreviations.
        Leads-after (parts_of_text abbreviations text) (left abbreviations) (characters abbreviations) (known_under abbreviations text old) (known_under abbreviations text new)
        words (sentences_same abbreviations) (ap (λ b. b.paragraphs) breaks) (reads.leads abbreviations) (old.after.words - 1) (omega (arith, some)) before
        (λ i. record { sentence = length (sentences_same abbreviations i); paragraph = paragraph i; gap = gaps abbreviations i });
  }

-- ---- a word

counted : (ended : Bool) (places : List ℕ) (place : ℕ) → length (places ++ (if ended then place ∷ [] else [])) ≡ shifted ended (length places)
counted true places place = length-append places (place ∷ [])
counted false places place = ap length (append-nil places)

module _ (text segment : List ℕ) (left : List (List ℕ) → List Part) (old new : TextStarts) (begun : Begun old.after) (behind_word : has_word old.last_period ≡ true → 0 < old.after.words)
    (before : new.before ≡ old.before) (words : new.after.words ≡ old.after.words + 1)
    (last : new.after.last ≡ after_word (record old.after.last { gap = with_period_if (has_word old.last_period) old.after.last.gap })) (no_period : new.last_period ≡ no_word)
    (by_period : new.by_period.items ≡ old.by_period.items ++ (if sentence_ended (with_period_if (has_word old.last_period) old.after.last.gap) then (if sentence_ended old.after.last.gap then no_word else old.last_period) ∷ [] else []))
    (sentences : new.after.breaks.sentences ≡ old.after.breaks.sentences ++ (if new.after.last.sentence == old.after.last.sentence then [] else new.after.words ∷ []))
    (paragraphs : new.after.breaks.paragraphs ≡ old.after.breaks.paragraphs ++ (if new.after.last.paragraph == old.after.last.paragraph then [] else new.after.words ∷ []))
    (reads : Reads text old (λ abbreviations. word segment ∷ left abbreviations)) where
  abbrev ended : Bool
  ended = sentence_ended (with_period_if (has_word old.last_period) old.after.last.gap)

  more : new.after.breaks.sentences ≡ old.after.breaks.sentences ++ (if ended then new.after.words ∷ [] else [])
  more =
      sentences ∙ ap (λ n. old.after.breaks.sentences ++ (if n == old.after.last.sentence then [] else new.after.words ∷ [])) (ap (λ l. l.sentence) last)
      ∙ ap (λ l. old.after.breaks.sentences ++ l) (new_start ended old.after.last.sentence (new.after.words ∷ []))

  -- no period stands before the first word
  first : old.after.words ≡ 0 → has_word old.last_period ≡ false
  first zero = by (has_word old.last_period) behind_word
    where
      by : (has : Bool) → (has ≡ true → 0 < old.after.words) → has ≡ false
      by true some = absurd (omega (arith, some refl, zero))
      by false some = refl

  module _ (abbreviations : List (List ℕ)) where
    stay : sentences_under abbreviations text new ≡ sentences_under abbreviations text old ++ (if sentence_ended (gap_under abbreviations text old) then new.after.words ∷ [] else [])
    stay =
        (λ i. staying abbreviations text (more i) (by_period i))
        ∙ staying-word abbreviations text old.after.breaks.sentences old.by_period.items reads.told old.last_period old.after.last.gap new.after.words

    inside : (known_under abbreviations text new).inside ≡ after_word (known_under abbreviations text old).inside
    inside =
        let gap = old.after.last.gap in
        let sentence = ap length stay ∙ counted (sentence_ended (gap_under abbreviations text old)) (sentences_under abbreviations text old) new.after.words in
        let paragraph = ap (λ l. l.paragraph) last
        ∙ ap (λ ends. shifted ends old.after.last.paragraph) (with_period_if-paragraph (has_word old.last_period) gap ∙ sym (with_period_if-paragraph (period_ends abbreviations text old.last_period) gap)) in
        let nothing = ap (λ word. with_period_if (period_ends abbreviations text word) new.after.last.gap) no_period ∙ ap (λ l. l.gap) last in
        λ i. record { sentence = sentence i; paragraph = paragraph i; gap = nothing i }

    none : old.after.words ≡ 0 → (known_under abbreviations text old).inside ≡ nothing_passed
    unfolding staying
    none zero =
        let sentence = ap (λ l. length (staying abbreviations text l old.by_period.items)) (begun.no_sentences zero) in
        let paragraph = ap (λ l. l.paragraph) (begun.none zero) in
        let gap = ap (λ ends. with_period_if ends old.after.last.gap) (period_ends-none abbreviations text old.last_period (first zero)) ∙ ap (λ l. l.gap) (begun.none zero) in
        λ i. record { sentence = sentence i; paragraph = paragraph i; gap = gap i }

    no_sentences : old.after.words ≡ 0 → sentences_under abbreviations text old ≡ []
    unfolding staying
    no_sentences zero = ap (λ l. staying abbreviations text l old.by_period.items) (begun.no_sentences zero)

    starts : sentences_under abbreviations text new
        ≡ sentences_under abbreviations text old ++ (if (known_under abbreviations text new).inside.sentence == (known_under abbreviations text old).inside.sentence then [] else new.after.words ∷ [])
    starts =
        let old_count = length (sentences_under abbreviations text old) in
        stay ∙ ap (λ l. sentences_under abbreviations text old ++ l) (sym (new_start (sentence_ended (gap_under abbreviations text old)) old_count (new.after.words ∷ [])))
        ∙ ap (λ n. sentences_under abbreviations text old ++ (if n == old_count then [] else new.after.words ∷ [])) (sym (ap (λ l. l.sentence) inside))

  pub Reads-word : Reads text new left
  Reads-word = record {
    told = ap length by_period ∙ length-told ended old.by_period.items old.after.breaks.sentences _ new.after.words reads.told ∙ sym (ap length more);
    stand = record {
      by_period = All-same (StandsIn text) _ _ by_period (stand-word text old.by_period.items old.last_period ended (sentence_ended old.after.last.gap) reads.stand.by_period reads.stand.last_period);
      last_period = subst (StandsIn text) (sym no_period) (λ has. cc);
    };
    leads = λ abbreviations.
        Leads-word (parts_of_text abbreviations text) (left abbreviations) segment (known_under abbreviations text old) (reads.leads abbreviations)
        (none abbreviations) (no_sentences abbreviations) begun.no_paragraphs (known_under abbreviations text new) before words (inside abbreviations) (starts abbreviations) paragraphs;
  }
