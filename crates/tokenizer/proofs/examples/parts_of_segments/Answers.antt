-- Each segment is a word or is none, and each word is an abbreviation or is none.
use Rattle.std.proofs.Common.{refl}
use Rattle.tokenizer.specs.Parts.{parts_behind}
use Rattle.tokenizer.proofs.ExampleLemmas.{blank_is_no_word, name_is_not_listed, name_is_word, parenthesis_is_no_word, period_is_no_word, title_is_listed, title_is_word}
use Rattle.tokenizer.proofs.examples.parts_of_segments.Goals as goal

pub returns-clause-spared : goal.returns-clause-spared
unfolding parts_behind
returns-clause-spared c = rw (title_is_word, title_is_listed, period_is_no_word, blank_is_no_word, name_is_word) refl

pub returns-clause-second_period : goal.returns-clause-second_period
unfolding parts_behind
returns-clause-second_period c = rw (title_is_word, title_is_listed, period_is_no_word) refl

pub returns-clause-behind_parenthesis : goal.returns-clause-behind_parenthesis
unfolding parts_behind
returns-clause-behind_parenthesis c = rw (title_is_word, title_is_listed, parenthesis_is_no_word, period_is_no_word) refl

pub returns-clause-behind_another_word : goal.returns-clause-behind_another_word
unfolding parts_behind
returns-clause-behind_another_word c = rw (title_is_word, title_is_listed, blank_is_no_word, name_is_word, name_is_not_listed, period_is_no_word) refl

pub returns-clause-no_set : goal.returns-clause-no_set
unfolding parts_behind
returns-clause-no_set c = rw (title_is_word, period_is_no_word) refl

pub returns-clause-told : goal.returns-clause-told
unfolding parts_behind
returns-clause-told c = rw (period_is_no_word, title_is_word) refl
