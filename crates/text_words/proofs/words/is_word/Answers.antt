-- The search through the characters of a segment finds a letter or a number if there is one.
use Rattle.std.proofs.Common.{rules, tests}
use Rattle.std.proofs.lemmas.Iterator.{YieldsList-from_chars}
use Rattle.std.proofs.lemmas.Iterator.Search.{any_from_yields_List}
use Rattle.text_words.specs.Words.{is_letter_or_number, is_word}
use Rattle.text_words.proofs.words.is_word.Goals as goal

pub returns : goal.returns
unfolding is_word
returns c =
    any_from_yields_List is_letter_or_number _ _ _ c.any.ensures.ran
    (YieldsList-from_chars _ c.utf8.segment c.chars.ensures.rest) (λ x r q k. search (rules, tests))
