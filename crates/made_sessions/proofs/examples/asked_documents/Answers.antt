-- Words that are numbers, by computation.
use Rattle.std.proofs.Common.{refl}
use Rattle.std.specs.Fmt.{digits}
use Rattle.made_sessions.proofs.examples.asked_documents.Goals as goal

pub returns-clause-two_words : goal.returns-clause-two_words
unfolding digits
returns-clause-two_words c = refl

pub returns-clause-one_word : goal.returns-clause-one_word
unfolding digits
returns-clause-one_word c = refl

pub returns-clause-too_many : goal.returns-clause-too_many
unfolding digits
returns-clause-too_many c = refl

pub returns-clause-none : goal.returns-clause-none
unfolding digits
returns-clause-none c = refl

pub returns-clause-a_zero_before : goal.returns-clause-a_zero_before
unfolding digits
returns-clause-a_zero_before c = refl

pub returns-clause-a_plus : goal.returns-clause-a_plus
unfolding digits
returns-clause-a_plus c = refl

pub returns-clause-no_number : goal.returns-clause-no_number
unfolding digits
returns-clause-no_number c = refl

pub returns-clause-no_word : goal.returns-clause-no_word
unfolding digits
returns-clause-no_word c = refl

pub returns-clause-after : goal.returns-clause-after
unfolding digits
returns-clause-after c = refl

pub returns-clause-another : goal.returns-clause-another
unfolding digits
returns-clause-another c = refl

pub returns-clause-three_words : goal.returns-clause-three_words
unfolding digits
returns-clause-three_words c = refl
