-- By computation.
use Rattle.std.proofs.Common.{refl}
use Rattle.ft_operators.specs.Chains.{links_from}
use Rattle.ft_operators.proofs.examples.chains.Goals as goal

pub returns-clause-without_filters : goal.returns-clause-without_filters
unfolding links_from
returns-clause-without_filters c = refl

pub returns-clause-one_inside_the_other : goal.returns-clause-one_inside_the_other
unfolding links_from
returns-clause-one_inside_the_other c = refl
