-- By computation.
use Rattle.std.proofs.Common.{refl}
use Rattle.ft_operators.specs.Course.{ways_on}
use Rattle.ft_operators.proofs.examples.ways_in_bounds.Goals as goal

pub returns-clause-in_a_window : goal.returns-clause-in_a_window
unfolding ways_on
returns-clause-in_a_window c = refl

pub returns-clause-at_a_distance : goal.returns-clause-at_a_distance
unfolding ways_on
returns-clause-at_a_distance c = refl

pub returns-clause-at_a_longer_one : goal.returns-clause-at_a_longer_one
unfolding ways_on
returns-clause-at_a_longer_one c = refl

pub returns-clause-at_a_distance_in_sentences : goal.returns-clause-at_a_distance_in_sentences
unfolding ways_on
returns-clause-at_a_distance_in_sentences c = refl

pub returns-clause-in_order : goal.returns-clause-in_order
unfolding ways_on
returns-clause-in_order c = refl

pub returns-clause-anywhere : goal.returns-clause-anywhere
unfolding ways_on
returns-clause-anywhere c = refl

pub returns-clause-each : goal.returns-clause-each
unfolding ways_on
returns-clause-each c = refl
