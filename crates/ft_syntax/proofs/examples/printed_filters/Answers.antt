-- Forms with numbers, by computation.
use Rattle.std.proofs.Common.{refl}
use Rattle.std.specs.Fmt.{digits}
use Rattle.ft_syntax.specs.Spacing.{set_out}
use Rattle.ft_syntax.specs.Symbols.{symbols, printed}
use Rattle.ft_syntax.proofs.examples.printed_filters.Goals as goal

pub returns-clause-window : goal.returns-clause-window
unfolding printed symbols set_out digits
returns-clause-window c = refl

pub returns-clause-distance : goal.returns-clause-distance
unfolding printed symbols set_out digits
returns-clause-distance c = refl

pub returns-clause-paragraphs : goal.returns-clause-paragraphs
unfolding printed symbols set_out digits
returns-clause-paragraphs c = refl
