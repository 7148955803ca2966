-- The unit begins between the two places.
use Rattle.std.proofs.Common.{◌-◌}
use Rattle.window_merges.proofs.UnitLemmas.{Halving}
use Rattle.window_merges.proofs.together.first_place.Given as goal

abbrev pub invariant-loop-first : goal.invariant-loop-first
invariant-loop-first g l = Halving (g.U.Units.number l.units) l.low l.far l.unit l.before l.first

abbrev pub decreases-loop-first : goal.decreases-loop-first
decreases-loop-first g l = l.first - l.before
