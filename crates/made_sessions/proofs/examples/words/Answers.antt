-- Words with numbers, by computation.
use Rattle.std.proofs.Common.{refl}
use Rattle.std.specs.Fmt.{digits}
use Rattle.made_sessions.specs.Made.{words}
use Rattle.made_sessions.proofs.examples.words.Goals as goal

pub returns-clause-digit : goal.returns-clause-digit
unfolding digits words
returns-clause-digit c = refl

pub returns-clause-last : goal.returns-clause-last
unfolding digits words
returns-clause-last c = refl

pub returns-clause-first_again : goal.returns-clause-first_again
unfolding digits words
returns-clause-first_again c = refl

pub returns-clause-in_a_row : goal.returns-clause-in_a_row
unfolding digits words
returns-clause-in_a_row c = refl
