-- The walk is at a way as long as it says so.
use Rattle.std.proofs.Common.{◌≡◌, length}
use Rattle.ft_base.specs.Lists.{is_not_empty}
use Rattle.ft_operators.specs.Tuples.{walk_of}
use Rattle.index_tests.proofs.walks.way_count.Given as goal

abbrev pub invariant-loop-there : goal.invariant-loop-there
invariant-loop-there g l = l.there ≡ is_not_empty ((walk_of g.P.PhraseHits.state l.tuples).rest)

abbrev pub decreases-loop-there : goal.decreases-loop-there
decreases-loop-there g l = length ((walk_of g.P.PhraseHits.state l.tuples).rest)
