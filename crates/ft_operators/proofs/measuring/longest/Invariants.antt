-- What is left makes of the size found what all hits make of none.
use Rattle.std.proofs.Common.{length}
use Rattle.ft_operators.specs.steps.Measuring.{Passing}
use Rattle.ft_operators.proofs.measuring.longest.Given as goal

abbrev pub invariant-loop-hit : goal.invariant-loop-hit
invariant-loop-hit g l =
    let state = g.P.PhraseHits.state in
    Passing l.unit (state l.fn.phrase) (state l.phrase) l.fn.steps l.steps l.size

abbrev pub decreases-loop-hit : goal.decreases-loop-hit
decreases-loop-hit g l = length ((g.P.PhraseHits.state l.phrase).rest)
