-- The tokens that are still to come, one part further.
use Rattle.std.proofs.Common.{◌≡◌, ◌≤◌, ◌<◌, ◌++◌, length, length-append, arith, ℕ, Bool, true, false, ◌||◌, ◌&&◌, List, [], ◌∷◌, refl, ap, ap₂, ◌∙◌}
use Rattle.std.proofs.Math.Bool.{or-false}
use Rattle.std.specs.Str.{chars}
use Rattle.tokenizer.specs.Gaps.{gap, begins_with_line_end, has_blank_line, ends_paragraph, ends_sentence}
use Rattle.tokenizer.specs.steps.GapSteps.{after_characters, after_tag, paragraph_ends_in, sentence_ends_in}
use Rattle.tokenizer.specs.steps.Numbering.{next_paragraph, next_sentence, after_word, tokens_left}
use Rattle.tokenizer.specs.Parts.{Part, word, gap_characters, gap_tag}
use Rattle.tokenizer.specs.Tokens.{shifted, tokens_from}
use Rattle.tokenizer.specs.declared.gap.Gap.{Gap}
use Rattle.tokenizer.specs.declared.numbering.Numbering.{Numbering}
use Rattle.ft_base.specs.declared.token.Token.{Token}
use Rattle.tokenizer.proofs.GapLemmas.{paragraph_ends_in-characters, sentence_ends_in-characters, paragraph_ends_in-tag, sentence_ends_in-tag}

module _ (last : Numbering) (rest : List Part) where
  pub tokens_left-characters : (bytes : List ℕ) → tokens_left last (gap_characters bytes ∷ rest) ≡ tokens_left (record last { gap = after_characters last.gap (chars bytes) }) rest
  unfolding tokens_left tokens_from
  tokens_left-characters bytes =
      ap₂ (λ s p. tokens_from (shifted s last.sentence) (shifted p last.paragraph) rest) (sentence_ends_in-characters last.gap (gap rest) bytes) (paragraph_ends_in-characters last.gap (gap rest) bytes)

  pub tokens_left-tag : (name : List ℕ) → tokens_left last (gap_tag name ∷ rest) ≡ tokens_left (record last { gap = after_tag last.gap name }) rest
  unfolding tokens_left tokens_from
  tokens_left-tag name =
      ap₂ (λ s p. tokens_from (shifted s last.sentence) (shifted p last.paragraph) rest) (sentence_ends_in-tag last.gap (gap rest) name) (paragraph_ends_in-tag last.gap (gap rest) name)

-- a new numbering gives the first token the numbers 1 and 1
pub tokens_left-new : (rest : List Part) → tokens_left (record { sentence = 0; paragraph = 0; gap = record { sentence_ends = true; paragraph_ends = true; after_line_feed = false } }) rest ≡ tokens_from 1 1 rest
unfolding tokens_left
tokens_left-new rest = refl

paragraph_here : (p l : Bool) → (p || (l && false) || (false || false)) ≡ p
paragraph_here true l = refl
paragraph_here false true = refl
paragraph_here false false = refl

paragraph_ends_in-nil : (known : Gap) → paragraph_ends_in known [] ≡ known.paragraph_ends
unfolding begins_with_line_end has_blank_line ends_paragraph
paragraph_ends_in-nil known = paragraph_here known.paragraph_ends known.after_line_feed

sentence_ends_in-nil : (known : Gap) → sentence_ends_in known [] ≡ (known.sentence_ends || known.paragraph_ends)
sentence_ends_in-nil known = or-false _ ∙ ap (λ p. known.sentence_ends || p) (paragraph_ends_in-nil known)

pub tokens_left-word : (last : Numbering) (bytes : List ℕ) (rest : List Part) → tokens_left last (word bytes ∷ rest) ≡ record { word = bytes; sentence = next_sentence last; paragraph = next_paragraph last } ∷ tokens_left (after_word last) rest
unfolding tokens_left tokens_from ends_sentence
tokens_left-word last bytes rest =
    ap₂ (λ s p. record { word = bytes; sentence = shifted s last.sentence; paragraph = shifted p last.paragraph }
    ∷ tokens_from (shifted (ends_sentence (gap rest)) (shifted s last.sentence)) (shifted (ends_paragraph (gap rest)) (shifted p last.paragraph)) rest)
    (sentence_ends_in-nil last.gap) (paragraph_ends_in-nil last.gap)

pub tokens_left-nil : (last : Numbering) → tokens_left last [] ≡ []
unfolding tokens_left tokens_from
tokens_left-nil last = refl

-- after a list there is one token more
pub token_more : (out : List Token) (last : Numbering) (bytes : List ℕ) (rest : List Part) (n : ℕ) → n ≤ length out → n < length (out ++ tokens_left last (word bytes ∷ rest))
token_more out last bytes rest n h =
    omega (arith, ap length (tokens_left-word last bytes rest), length-append out (tokens_left last (word bytes ∷ rest)))
