-- The segments of a text: they stand in it, and one of them further the word before what is left is that segment, or none.
use Rattle.std.proofs.Common.{◌≡◌, ◌<◌, ℕ, ◌+◌, ◌++◌, length-append, subst, Bool, true, false, All, List, [], ◌∷◌, length, nat_lt, IsUtf8, refl, sym, ap, ◌∙◌, arith, inl, inr, if◌then◌else◌}
use Rattle.std.proofs.lemmas.Bool.{cases_Bool}
use Rattle.std.proofs.lemmas.Bool.Decides.{nat_tests}
use Rattle.std.proofs.lemmas.Str.{chars-nil}
use Rattle.std.specs.List.{list_any}
use Rattle.unicode_segmentation.specs.Segments.{with_offsets}
use Rattle.unicode_segmentation.specs.Word.{is_word_break, word_bounds}
use Rattle.unicode_segmentation.proofs.SegmentsLemmas.{All-IsPieceOf}
use Rattle.unicode_segmentation.proofs.SegmentsLemmas as S
use Rattle.text_words.specs.Words.{is_letter_or_number, is_word}
use Rattle.tokenizer.specs.Parts.{Part, gap_characters, is_abbreviation, parts_behind, without_period, word}
use Rattle.tokenizer.specs.steps.Behind.{StandsIn, has_word, spares}
use Rattle.tokenizer.specs.steps.SegmentParts.{IsSegmentOf, part_of, words_of_segment}
use Rattle.tokenizer.specs.steps.SegmentsLeft.{Steps, parts_left}
use Rattle.tokenizer.specs.declared.segments.Segment.{Segment}
use Rattle.tokenizer.specs.declared.segments.Segments.{Segments}
use Rattle.tokenizer.specs.declared.behind.WordBefore.{WordBefore}
use Rattle.tokenizer.proofs.PartsLemmas.{parts_behind-characters, parts_behind-word, words_among}

IsSegmentOf-piece : (text : List ℕ) (x : ℕ × List ℕ) → S.IsPieceOf text x → IsSegmentOf text x
IsSegmentOf-piece text x h = record { piece = record { ordered = omega arith; start = h.start; end = h.end }; bytes = sym h.bytes }

pub All-IsSegmentOf : (text : List ℕ) → IsUtf8 text → All (IsSegmentOf text) (with_offsets 0 (word_bounds text))
All-IsSegmentOf text u = λ k d more. IsSegmentOf-piece text _ (All-IsPieceOf is_word_break text u k d more)

nil_is_no_word : is_word [] ≡ false
unfolding is_word
nil_is_no_word = ap (list_any is_letter_or_number) chars-nil

-- a word has bytes
is_long : (bytes : List ℕ) → is_word bytes ≡ true → (from : ℕ) → nat_lt from (from + length bytes) ≡ true
is_long [] holds from = let not_so : false ≡ true = sym nil_is_no_word ∙ holds in cc
is_long (b ∷ bs) holds from = grind (arith, nat_tests)

abbrev pub word_of : Bool → ℕ × List ℕ → WordBefore
word_of is x = if is then record { from = x.0; to = x.0 + length x.1 } else record { from = 0; to = 0 }

-- one segment further
pub next-segment : (abbreviations : List (List ℕ)) (text : List ℕ) (before : WordBefore) (x : ℕ × List ℕ) (rest : List (List ℕ)) → IsSegmentOf text x
    → parts_behind abbreviations (spares abbreviations text before) (x.1 ∷ rest)
    ≡ (if is_word x.1 then word x.1 else gap_characters (without_period (spares abbreviations text before) x.1))
    ∷ parts_behind abbreviations (spares abbreviations text (word_of (is_word x.1) x)) rest
next-segment abbreviations text before x rest stands =
    elim (cases_Bool (is_word x.1)) [
      | inl holds ↦ parts_behind-word abbreviations (spares abbreviations text before) x.1 rest holds
          ∙ rw holds (ap (λ s. word x.1 ∷ parts_behind abbreviations s rest) (sym (is_it holds)))
      | inr fails ↦ parts_behind-characters abbreviations (spares abbreviations text before) x.1 rest fails ∙ rw fails refl
    ]
  where
    is_it : is_word x.1 ≡ true → spares abbreviations text (record { from = x.0; to = x.0 + length x.1 }) ≡ is_abbreviation abbreviations x.1
    is_it holds = rw (is_long x.1 holds x.0) (ap (is_abbreviation abbreviations) stands.bytes)

pub has_word-word_of : (is : Bool) (x : ℕ × List ℕ) → has_word (word_of is x) ≡ true → is ≡ true
has_word-word_of true x has = refl
has_word-word_of false x has = has

pub word_of-stands : (text : List ℕ) (x : ℕ × List ℕ) → IsSegmentOf text x → (is : Bool) → StandsIn text (word_of is x)
word_of-stands text x stands true = λ has. stands.piece
word_of-stands text x stands false = λ has. cc

-- ---- a step of the walk

pub words_among-part : (abbreviations : List (List ℕ)) (text : List ℕ) (segment : Segment) (rest : List Part) → words_among (part_of abbreviations text segment ∷ rest) ≡ words_of_segment segment ++ words_among rest
words_among-part abbreviations text segment rest =
    elim (cases_Bool segment.is_word) [
      | inl holds ↦ rw holds refl
      | inr fails ↦ rw fails refl
    ]

module _ (old : Segments) (segment : Segment) (new : Segments) (steps : Steps old segment new) (text : List ℕ) (same : old.text.now ≡ text) where
  pub step-text : new.text.now ≡ text
  step-text = steps.text ∙ same

  pub step-stands : StandsIn text segment.before
  step-stands = subst (StandsIn text) (sym steps.before) (subst (λ t. StandsIn t old.before) same old.before_stands)

  pub step-parts : (abbreviations : List (List ℕ)) → parts_left abbreviations old ≡ part_of abbreviations text segment ∷ parts_left abbreviations new
  step-parts abbreviations = steps.parts abbreviations ∙ ap (λ t. part_of abbreviations t segment ∷ parts_left abbreviations new) same

  pub step-words : (abbreviations : List (List ℕ)) → words_among (parts_left abbreviations old) ≡ words_of_segment segment ++ words_among (parts_left abbreviations new)
  step-words abbreviations = ap words_among (step-parts abbreviations) ∙ words_among-part abbreviations text segment (parts_left abbreviations new)

  pub step-count : (abbreviations : List (List ℕ)) → length (words_among (parts_left abbreviations old)) ≡ length (words_of_segment segment) + length (words_among (parts_left abbreviations new))
  step-count abbreviations = ap length (step-words abbreviations) ∙ length-append (words_of_segment segment) (words_among (parts_left abbreviations new))

  pub step-fewer : (abbreviations : List (List ℕ)) → length (parts_left abbreviations new) < length (parts_left abbreviations old)
  step-fewer abbreviations = omega (arith, ap length (step-parts abbreviations))
