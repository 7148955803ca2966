-- What is known of a text, one segment further, and what going past it brings.
use Rattle.std.proofs.Common.{◌≡◌, ℕ, zero, suc, ◌+◌, ◌==◌, Bool, List, [], ◌∷◌, ◌++◌, refl, sym, ap, ap₂, subst, ◌∙◌, append_assoc, add-one, arith, if◌then◌else◌}
use Rattle.std.specs.Str.{chars}
use Rattle.ft_base.specs.declared.token.Token.{Token}
use Rattle.tokenizer.specs.Parts.{Part, word, gap_characters, parts_of_text}
use Rattle.tokenizer.specs.Tokens.{shifted, starts}
use Rattle.tokenizer.specs.steps.Begun.{after_begun, places_begun}
use Rattle.tokenizer.specs.steps.GapSteps.{after_characters, after_part}
use Rattle.tokenizer.specs.steps.Numbering.{after_word, both_passed, nothing_passed, paragraph_ends, sentence_ends, tokens_left}
use Rattle.tokenizer.specs.steps.StartsLeft.{sentences_in, paragraphs_in}
use Rattle.tokenizer.specs.steps.TextsKnown.{Known, Leads, Tells, after_known, known_under, before_first, paragraphs_known, sentences_known, words_known}
use Rattle.tokenizer.specs.declared.gap.Gap.{Gap}
use Rattle.tokenizer.specs.declared.gap_part.GapPart.{GapPart}
use Rattle.tokenizer.specs.declared.numbering.Numbering.{Numbering}
use Rattle.tokenizer.specs.declared.starts.Starts.{Starts}
use Rattle.tokenizer.specs.declared.text_starts.TextStarts.{TextStarts}
use Rattle.tokenizer.proofs.BegunLemmas.{after_begun-word, places_begun-first, places_begun-later}
use Rattle.tokenizer.proofs.NumberingLemmas.{tokens_left-characters, tokens_left-word}
use Rattle.tokenizer.proofs.StartsLemmas.{starts-token}

abbrev by_sentence : Token → ℕ
by_sentence = λ token. token.sentence

abbrev by_paragraph : Token → ℕ
by_paragraph = λ token. token.paragraph

Known-same : (a b : Known) → a.before ≡ b.before → a.words ≡ b.words → a.sentences ≡ b.sentences → a.paragraphs ≡ b.paragraphs → a.inside ≡ b.inside → a ≡ b
Known-same a b before words sentences paragraphs inside =
    λ i. record { before = before i; words = words i; sentences = sentences i; paragraphs = paragraphs i; inside = inside i }

-- ---- characters

module _ (parts left : List Part) (bytes : List ℕ) (old : Known) where
  prefix : (part : GapPart) → ((gap : Gap) → after_part part gap ≡ after_characters (after_part old.before gap) (chars bytes))
      → Leads parts (record old { words = 0 }) (gap_characters bytes ∷ left) → Leads parts (record old { before = part; words = 0 }) left
  prefix part same leads =
      let gone : (last : Numbering) (rest : List Part) → tokens_left (before_first old last) (gap_characters bytes ∷ (left ++ rest)) ≡ tokens_left (record last { gap = after_part part last.gap }) (left ++ rest) =
      λ last rest. tokens_left-characters (before_first old last) (left ++ rest) bytes ∙ ap (λ g. tokens_left (record last { gap = g }) (left ++ rest)) (sym (same last.gap)) in
      record {
        sentences = λ last seen rest. leads.sentences last seen rest ∙ ap (starts by_sentence last.sentence (seen + 0 + 1)) (gone last rest);
        paragraphs = λ last seen rest. leads.paragraphs last seen rest ∙ ap (starts by_paragraph last.paragraph (seen + 0 + 1)) (gone last rest);
      }

  after : (w : ℕ) → Leads parts (record old { words = suc w }) (gap_characters bytes ∷ left)
      → Leads parts (record old { words = suc w; inside = record old.inside { gap = after_characters old.inside.gap (chars bytes) } }) left
  after w leads =
      let at = λ (last : Numbering). both_passed (after_word (before_first old last)) old.inside in
      record {
        sentences = λ last seen rest. leads.sentences last seen rest
            ∙ ap (λ ts. places_begun (suc w) old.sentences (sentence_ends (before_first old last)) seen ++ starts by_sentence (at last).sentence (seen + suc w + 1) ts)
            (tokens_left-characters (at last) (left ++ rest) bytes);
        paragraphs = λ last seen rest. leads.paragraphs last seen rest
            ∙ ap (λ ts. places_begun (suc w) old.paragraphs (paragraph_ends (before_first old last)) seen ++ starts by_paragraph (at last).paragraph (seen + suc w + 1) ts)
            (tokens_left-characters (at last) (left ++ rest) bytes);
      }

  module _ (new : Known) (words : new.words ≡ old.words) (sentences : new.sentences ≡ old.sentences) (paragraphs : new.paragraphs ≡ old.paragraphs) (leads : Leads parts old (gap_characters bytes ∷ left)) where
    pub Leads-prefix : old.words ≡ 0 → new.inside ≡ old.inside → ((gap : Gap) → after_part new.before gap ≡ after_characters (after_part old.before gap) (chars bytes)) → Leads parts new left
    Leads-prefix none inside same =
        subst (λ k. Leads parts k left) (Known-same (record old { before = new.before; words = 0 }) new refl (sym none ∙ sym words) (sym sentences) (sym paragraphs) (sym inside))
        (prefix new.before same (subst (λ k. Leads parts k (gap_characters bytes ∷ left)) (Known-same old (record old { words = 0 }) refl none refl refl refl) leads))

    pub Leads-after : (w : ℕ) → old.words ≡ suc w → new.before ≡ old.before → new.inside ≡ record old.inside { gap = after_characters old.inside.gap (chars bytes) } → Leads parts new left
    Leads-after w some before inside =
        subst (λ k. Leads parts k left)
        (Known-same (record old { words = suc w; inside = record old.inside { gap = after_characters old.inside.gap (chars bytes) } }) new (sym before) (sym some ∙ sym words) (sym sentences) (sym paragraphs) (sym inside))
        (after w (subst (λ k. Leads parts k (gap_characters bytes ∷ left)) (Known-same old (record old { words = suc w }) refl some refl refl refl) leads))

-- ---- a word

first-more : (ends : Bool) (seen before : ℕ) (places : List ℕ) {inside next : ℕ} → places ≡ [] → inside ≡ 0 → next ≡ 0
    → (if shifted ends before == before then [] else (seen + 0 + 1) ∷ []) ≡ places_begun 1 (places ++ (if next == inside then [] else (0 + 1) ∷ [])) ends seen
first-more ends seen before places empty none still =
    let at : seen + 0 + 1 ≡ seen + 1 = omega arith in
    rw (empty, none, still, at) (places_begun-first ends seen before)

-- the places with one word more, by the numbers of the numbering outside and of that inside
sentences-more : (w seen : ℕ) (inside last : Numbering) (places : List ℕ) → (w ≡ 0 → inside ≡ nothing_passed) → (w ≡ 0 → places ≡ [])
    → places_begun w places (sentence_ends last) seen ++ (if (after_word (after_begun w inside last)).sentence == (after_begun w inside last).sentence then [] else (seen + w + 1) ∷ [])
    ≡ places_begun (suc w) (places ++ (if (after_word inside).sentence == inside.sentence then [] else (w + 1) ∷ [])) (sentence_ends last) seen
sentences-more zero seen inside last places none empty = first-more (sentence_ends last) seen last.sentence places (empty refl) (ap (λ i. i.sentence) (none refl)) (ap (λ i. (after_word i).sentence) (none refl))
sentences-more (suc w) seen inside last places none empty =
    places_begun-later w places (sentence_ends last) (sentence_ends inside) seen ((after_word last).sentence + inside.sentence) inside.sentence

paragraphs-more : (w seen : ℕ) (inside last : Numbering) (places : List ℕ) → (w ≡ 0 → inside ≡ nothing_passed) → (w ≡ 0 → places ≡ [])
    → places_begun w places (paragraph_ends last) seen ++ (if (after_word (after_begun w inside last)).paragraph == (after_begun w inside last).paragraph then [] else (seen + w + 1) ∷ [])
    ≡ places_begun (suc w) (places ++ (if (after_word inside).paragraph == inside.paragraph then [] else (w + 1) ∷ [])) (paragraph_ends last) seen
paragraphs-more zero seen inside last places none empty = first-more (paragraph_ends last) seen last.paragraph places (empty refl) (ap (λ i. i.paragraph) (none refl)) (ap (λ i. (after_word i).paragraph) (none refl))
paragraphs-more (suc w) seen inside last places none empty =
    places_begun-later w places (paragraph_ends last) (paragraph_ends inside) seen ((after_word last).paragraph + inside.paragraph) inside.paragraph

-- what is known with one word more
word_more : Known → Known
word_more old = record {
  before = old.before;
  words = suc old.words;
  sentences = old.sentences ++ (if (after_word old.inside).sentence == old.inside.sentence then [] else (old.words + 1) ∷ []);
  paragraphs = old.paragraphs ++ (if (after_word old.inside).paragraph == old.inside.paragraph then [] else (old.words + 1) ∷ []);
  inside = after_word old.inside;
}

module _ (parts left : List Part) (bytes : List ℕ) (old : Known) (leads : Leads parts old (word bytes ∷ left))
    (none : old.words ≡ 0 → old.inside ≡ nothing_passed) (no_sentences : old.words ≡ 0 → old.sentences ≡ []) (no_paragraphs : old.words ≡ 0 → old.paragraphs ≡ []) where
  more : Leads parts (word_more old) left
  unfolding word_more
  more =
      let w = old.words in
      let at : (seen : ℕ) → seen + w + 1 + 1 ≡ seen + suc w + 1 = λ seen. omega arith in
      let further : (last : Numbering) → after_word (after_known old last) ≡ after_known (word_more old) last =
      λ last. after_begun-word w old.inside (before_first old last) none in
      record {
        sentences = λ last seen rest.
            let a = after_known old last in
            leads.sentences last seen rest
            ∙ ap (λ ts. sentences_known old last seen ++ starts by_sentence a.sentence (seen + w + 1) ts) (tokens_left-word a bytes (left ++ rest))
            ∙ starts-token by_sentence a.sentence (seen + w + 1) _ (tokens_left (after_word a) (left ++ rest)) (sentences_known old last seen)
            ∙ ap₂ (λ ps b. ps ++ starts by_sentence b.sentence (seen + w + 1 + 1) (tokens_left b (left ++ rest)))
            (sentences-more w seen old.inside (before_first old last) old.sentences none no_sentences) (further last)
            ∙ ap (λ n. sentences_known (word_more old) last seen ++ starts by_sentence (after_known (word_more old) last).sentence n (tokens_left (after_known (word_more old) last) (left ++ rest))) (at seen);
        paragraphs = λ last seen rest.
            let a = after_known old last in
            leads.paragraphs last seen rest
            ∙ ap (λ ts. paragraphs_known old last seen ++ starts by_paragraph a.paragraph (seen + w + 1) ts) (tokens_left-word a bytes (left ++ rest))
            ∙ starts-token by_paragraph a.paragraph (seen + w + 1) _ (tokens_left (after_word a) (left ++ rest)) (paragraphs_known old last seen)
            ∙ ap₂ (λ ps b. ps ++ starts by_paragraph b.paragraph (seen + w + 1 + 1) (tokens_left b (left ++ rest)))
            (paragraphs-more w seen old.inside (before_first old last) old.paragraphs none no_paragraphs) (further last)
            ∙ ap (λ n. paragraphs_known (word_more old) last seen ++ starts by_paragraph (after_known (word_more old) last).paragraph n (tokens_left (after_known (word_more old) last) (left ++ rest))) (at seen);
      }

  pub Leads-word : (new : Known) → new.before ≡ old.before → new.words ≡ old.words + 1 → new.inside ≡ after_word old.inside
      → new.sentences ≡ old.sentences ++ (if new.inside.sentence == old.inside.sentence then [] else new.words ∷ [])
      → new.paragraphs ≡ old.paragraphs ++ (if new.inside.paragraph == old.inside.paragraph then [] else new.words ∷ [])
      → Leads parts new left
  unfolding word_more
  Leads-word new before words inside sentences paragraphs =
      subst (λ k. Leads parts k left)
      (Known-same (word_more old) new (sym before) (sym (words ∙ add-one old.words)) (sym (sentences ∙ ap₂ (λ n at. old.sentences ++ (if n.sentence == old.inside.sentence then [] else at ∷ [])) inside words))
      (sym (paragraphs ∙ ap₂ (λ n at. old.paragraphs ++ (if n.paragraph == old.inside.paragraph then [] else at ∷ [])) inside words)) (sym inside))
      more

-- ---- past a text that is known

module _ (abbreviations : List (List ℕ)) (text : List ℕ) (old new : Starts) (known : TextStarts) (tells : Tells known text) (words : new.words ≡ old.words + words_known known)
    (last : new.last ≡ after_known (known_under abbreviations text known) old.last) where
  pub sentences_in-known : new.breaks.sentences ≡ old.breaks.sentences ++ sentences_known (known_under abbreviations text known) old.last old.words → (rest : List Part)
      → sentences_in old (parts_of_text abbreviations text ++ rest) ≡ sentences_in new rest
  unfolding sentences_in
  sentences_in-known places rest =
      rw (places, last, words)
      (ap (λ l. old.breaks.sentences ++ l) ((tells.leads abbreviations).sentences old.last old.words rest)
      ∙ sym (append_assoc old.breaks.sentences (sentences_known (known_under abbreviations text known) old.last old.words) _))

  pub paragraphs_in-known : new.breaks.paragraphs ≡ old.breaks.paragraphs ++ paragraphs_known (known_under abbreviations text known) old.last old.words → (rest : List Part)
      → paragraphs_in old (parts_of_text abbreviations text ++ rest) ≡ paragraphs_in new rest
  unfolding paragraphs_in
  paragraphs_in-known places rest =
      rw (places, last, words)
      (ap (λ l. old.breaks.paragraphs ++ l) ((tells.leads abbreviations).paragraphs old.last old.words rest)
      ∙ sym (append_assoc old.breaks.paragraphs (paragraphs_known (known_under abbreviations text known) old.last old.words) _))
