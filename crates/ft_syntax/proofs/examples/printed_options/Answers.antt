-- Forms with numbers, by computation.
use Rattle.std.proofs.Common.{refl}
use Rattle.std.specs.Fmt.{digits}
use Rattle.ft_syntax.specs.Spacing.{set_out}
use Rattle.ft_syntax.specs.Symbols.{symbols, printed}
use Rattle.ft_syntax.proofs.examples.printed_options.Goals as goal

pub returns-clause-sensitive : goal.returns-clause-sensitive
unfolding printed symbols set_out digits
returns-clause-sensitive c = refl

pub returns-clause-one_thesaurus : goal.returns-clause-one_thesaurus
unfolding printed symbols set_out digits
returns-clause-one_thesaurus c = refl

pub returns-clause-two_thesauri : goal.returns-clause-two_thesauri
unfolding printed symbols set_out digits
returns-clause-two_thesauri c = refl
