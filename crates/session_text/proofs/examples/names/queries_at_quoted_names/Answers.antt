-- Queries at names, by computation.
use Rattle.std.proofs.Common.{refl}
use Rattle.std.specs.Str.{chars}
use Rattle.session_text.proofs.examples.names.queries_at_quoted_names.Goals as goal

pub returns-clause-words : goal.returns-clause-words
unfolding chars
returns-clause-words c = refl

pub returns-clause-no_blank : goal.returns-clause-no_blank
unfolding chars
returns-clause-no_blank c = refl

pub returns-clause-no_path : goal.returns-clause-no_path
unfolding chars
returns-clause-no_path c = refl

pub returns-clause-no_name : goal.returns-clause-no_name
unfolding chars
returns-clause-no_name c = refl

pub returns-clause-open : goal.returns-clause-open
unfolding chars
returns-clause-open c = refl

pub returns-clause-bare : goal.returns-clause-bare
unfolding chars
returns-clause-bare c = refl

pub returns-clause-another_word : goal.returns-clause-another_word
unfolding chars
returns-clause-another_word c = refl

pub returns-clause-unread : goal.returns-clause-unread
unfolding chars
returns-clause-unread c = refl
