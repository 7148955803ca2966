-- All hits begin in order where those do that are left, and follow the last start.
use Rattle.std.proofs.Common.{length}
use Rattle.ft_operators.specs.steps.Rising.{Rounds, left_of}
use Rattle.ft_operators.proofs.rising.starts_rise.Given as goal

abbrev pub invariant-loop-start : goal.invariant-loop-start
invariant-loop-start g l =
    let left = left_of g.P.PhraseHits.state in
    Rounds l.unit (left l.fn.node) (left l.node) l.fn.steps l.steps l.last

abbrev pub decreases-loop-start : goal.decreases-loop-start
decreases-loop-start g l = length ((left_of g.P.PhraseHits.state l.node).hits)
