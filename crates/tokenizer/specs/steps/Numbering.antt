-- The tokens of the parts that are still to come, by the numbers of the last token and what is known of the gap after it.
use Rattle.std.specs.Prelude.{ℕ, ◌+◌, Bool, false, ◌||◌, List}
use Rattle.tokenizer.specs.Gaps.{gap}
use Rattle.tokenizer.specs.steps.GapSteps.{paragraph_ends_in, sentence_ends_in}
use Rattle.tokenizer.specs.Parts.{Part}
use Rattle.tokenizer.specs.Tokens.{shifted, tokens_from}
use Rattle.tokenizer.specs.declared.numbering.Numbering.{Numbering}
use Rattle.ft_base.specs.declared.token.Token.{Token}

unfoldable pub tokens_left : Numbering → List Part → List Token
tokens_left last rest =
    tokens_from (shifted (sentence_ends_in last.gap (gap rest)) last.sentence) (shifted (paragraph_ends_in last.gap (gap rest)) last.paragraph) rest

-- what is known of the gap after the last token says that a sentence ends in it, or a paragraph
abbrev pub sentence_ends : Numbering → Bool
sentence_ends last = last.gap.sentence_ends || last.gap.paragraph_ends

abbrev pub paragraph_ends : Numbering → Bool
paragraph_ends last = last.gap.paragraph_ends

-- the numbers of the token after a gap of which no more is to come
abbrev pub next_sentence : Numbering → ℕ
next_sentence last = shifted (sentence_ends last) last.sentence

abbrev pub next_paragraph : Numbering → ℕ
next_paragraph last = shifted (paragraph_ends last) last.paragraph

-- the numbering after that token
abbrev pub after_word : Numbering → Numbering
after_word last = record {
  sentence = next_sentence last;
  paragraph = next_paragraph last;
  gap = record { sentence_ends = false; paragraph_ends = false; after_line_feed = false };
}

-- no number was raised, and nothing of a gap was seen
abbrev pub nothing_passed : Numbering
nothing_passed = record { sentence = 0; paragraph = 0; gap = record { sentence_ends = false; paragraph_ends = false; after_line_feed = false } }

-- the numbering after what begins with the last token, by what was counted in there
abbrev pub both_passed : Numbering → Numbering → Numbering
both_passed last inside = record { sentence = last.sentence + inside.sentence; paragraph = last.paragraph + inside.paragraph; gap = inside.gap }
