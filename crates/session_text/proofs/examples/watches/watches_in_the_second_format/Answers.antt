-- Names in quotation marks, by computation.
use Rattle.std.proofs.Common.{refl}
use Rattle.std.specs.Str.{chars}
use Rattle.session_text.proofs.examples.watches.watches_in_the_second_format.Goals as goal

pub returns-clause-set_under_words : goal.returns-clause-set_under_words
unfolding chars
returns-clause-set_under_words c = refl

pub returns-clause-told_under_words : goal.returns-clause-told_under_words
unfolding chars
returns-clause-told_under_words c = refl

pub returns-clause-given_up_under_words : goal.returns-clause-given_up_under_words
unfolding chars
returns-clause-given_up_under_words c = refl
