-- The place is between two numbers.
use Rattle.std.proofs.Common.{◌-◌}
use Rattle.index_meaning.specs.Dictionaries.{entries}
use Rattle.term_dict.specs.Places.{IsWindow}
use Rattle.term_dict.proofs.places.in_one_block.Given as goal

abbrev pub invariant-loop-place : goal.invariant-loop-place
invariant-loop-place l = IsWindow l.place l.sought (entries l.terms.terms) l.window.low l.window.high

abbrev pub decreases-loop-place : goal.decreases-loop-place
decreases-loop-place l = l.window.end - l.window.first
