-- Forms with numbers, by computation.
use Rattle.std.proofs.Common.{refl}
use Rattle.std.specs.Fmt.{digits}
use Rattle.ft_syntax.specs.Spacing.{set_out}
use Rattle.ft_syntax.specs.Symbols.{symbols, printed}
use Rattle.ft_syntax.proofs.examples.printed_words.Goals as goal

pub returns-clause-exactly : goal.returns-clause-exactly
unfolding printed symbols set_out digits
returns-clause-exactly c = refl

pub returns-clause-at_least : goal.returns-clause-at_least
unfolding printed symbols set_out digits
returns-clause-at_least c = refl

pub returns-clause-at_most : goal.returns-clause-at_most
unfolding printed symbols set_out digits
returns-clause-at_most c = refl

pub returns-clause-from_to : goal.returns-clause-from_to
unfolding printed symbols set_out digits
returns-clause-from_to c = refl
