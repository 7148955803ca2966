-- Names, by computation.
use Rattle.std.proofs.Common.{refl}
use Rattle.std.specs.Str.{chars}
use Rattle.session_text.proofs.examples.names.names_in_quotation_marks.Goals as goal

pub returns-clause-blanks : goal.returns-clause-blanks
unfolding chars
returns-clause-blanks c = refl

pub returns-clause-outside_ascii : goal.returns-clause-outside_ascii
unfolding chars
returns-clause-outside_ascii c = refl

pub returns-clause-control : goal.returns-clause-control
unfolding chars
returns-clause-control c = refl

pub returns-clause-last_control : goal.returns-clause-last_control
unfolding chars
returns-clause-last_control c = refl

pub returns-clause-empty : goal.returns-clause-empty
unfolding chars
returns-clause-empty c = refl

pub returns-clause-behind : goal.returns-clause-behind
unfolding chars
returns-clause-behind c = refl

pub returns-clause-open : goal.returns-clause-open
unfolding chars
returns-clause-open c = refl

pub returns-clause-bare : goal.returns-clause-bare
unfolding chars
returns-clause-bare c = refl

pub returns-clause-bare_with_one : goal.returns-clause-bare_with_one
unfolding chars
returns-clause-bare_with_one c = refl

pub returns-clause-unread : goal.returns-clause-unread
unfolding chars
returns-clause-unread c = refl

pub returns-clause-unread_words : goal.returns-clause-unread_words
unfolding chars
returns-clause-unread_words c = refl
