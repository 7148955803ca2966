-- Words that are lengths, by computation.
use Rattle.std.proofs.Common.{refl}
use Rattle.std.specs.Fmt.{digits}
use Rattle.session_text.proofs.examples.sizes.lengths.Goals as goal

pub returns-clause-zero : goal.returns-clause-zero
unfolding digits
returns-clause-zero c = refl

pub returns-clause-digits : goal.returns-clause-digits
unfolding digits
returns-clause-digits c = refl

pub returns-clause-leading_zero : goal.returns-clause-leading_zero
unfolding digits
returns-clause-leading_zero c = refl

pub returns-clause-plus : goal.returns-clause-plus
unfolding digits
returns-clause-plus c = refl

pub returns-clause-no_digit : goal.returns-clause-no_digit
unfolding digits
returns-clause-no_digit c = refl

pub returns-clause-no_word : goal.returns-clause-no_word
unfolding digits
returns-clause-no_word c = refl

pub returns-clause-most : goal.returns-clause-most
unfolding digits
returns-clause-most c = refl

pub returns-clause-one_more : goal.returns-clause-one_more
unfolding digits
returns-clause-one_more c = refl
