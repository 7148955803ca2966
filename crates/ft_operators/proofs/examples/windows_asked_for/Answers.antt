-- A million windows are counted, not listed.
use Rattle.std.proofs.Common.{sym, refl, [], ◌∷◌}
use Rattle.ft_base.specs.declared.unit.TextUnit.TheVariants.{Words}
use Rattle.ft_operators.specs.declared.course.Windows.TheVariants.{Telling}
use Rattle.ft_operators.specs.Examples.{at}
use Rattle.ft_operators.proofs.WindowLemmas.{count_asked}
use Rattle.ft_operators.proofs.examples.windows_asked_for.Goals as goal

pub returns-clause-of_a_million : goal.returns-clause-of_a_million
returns-clause-of_a_million c = sym (count_asked Telling 1000000 Words (at 2 ∷ at 4 ∷ []) _ refl)
