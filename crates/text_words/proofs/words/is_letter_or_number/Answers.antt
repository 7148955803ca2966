-- For ASCII the letters and digits are those of the general categories, and other characters are asked for theirs.
use Rattle.std.proofs.Common.{sym, ◌∙◌, ltb-true, arith}
use Rattle.text_words.specs.Words.{is_letter_or_number}
use Rattle.text_words.proofs.WordsLemmas.{is_letter_or_number-ascii}
use Rattle.text_words.proofs.words.is_letter_or_number.Goals as goal

pub returns-then-is_ascii : goal.returns-then-is_ascii
returns-then-is_ascii c =
    c.is_ascii_alphanumeric.ensures.value ∙ is_letter_or_number-ascii c.args.c (ltb-true _ _ (sym c.if-is_ascii.ensures))

pub returns-then-contains : goal.returns-then-contains
unfolding is_letter_or_number
returns-then-contains c = grind arith

pub returns-else-contains : goal.returns-else-contains
unfolding is_letter_or_number
returns-else-contains c = grind arith
