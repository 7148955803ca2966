-- All hits rise where those that are left do.
use Rattle.std.proofs.Common.{length}
use Rattle.ft_operators.specs.steps.Ordering.{Rising}
use Rattle.ft_operators.proofs.ordering.hits_rise.Given as goal

abbrev pub invariant-loop-hit : goal.invariant-loop-hit
invariant-loop-hit g l =
    let state = g.P.PhraseHits.state in
    Rising (state l.fn.phrase) (state l.phrase) l.fn.steps l.steps l.last

abbrev pub decreases-loop-hit : goal.decreases-loop-hit
decreases-loop-hit g l = length ((g.P.PhraseHits.state l.phrase).rest)
