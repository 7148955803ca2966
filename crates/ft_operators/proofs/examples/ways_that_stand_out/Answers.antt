-- By computation.
use Rattle.std.proofs.Common.{refl}
use Rattle.ft_operators.specs.Course.{ways_on}
use Rattle.ft_operators.proofs.examples.ways_that_stand_out.Goals as goal

pub returns-clause-on_a_course : goal.returns-clause-on_a_course
unfolding ways_on
returns-clause-on_a_course c = refl

pub returns-clause-on_each_course : goal.returns-clause-on_each_course
unfolding ways_on
returns-clause-on_each_course c = refl
