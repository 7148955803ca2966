-- The place is between two numbers.
use Rattle.std.proofs.Common.{◌-◌}
use Rattle.index_meaning.specs.Dictionaries.{entries}
use Rattle.term_dict.specs.Places.{IsWindow}
use Rattle.term_dict.proofs.places.count_before.Given as goal

abbrev pub invariant-loop-low : goal.invariant-loop-low
invariant-loop-low l = IsWindow l.place l.sought (entries l.terms.terms) l.low l.high

abbrev pub decreases-loop-low : goal.decreases-loop-low
decreases-loop-low l = l.high - l.low
