-- What is true of the hits that begin there is true of all that were left where it is of those that are.
use Rattle.std.proofs.Common.{length}
use Rattle.ft_operators.specs.steps.Rising.{PassingAt}
use Rattle.ft_operators.proofs.rising.pass_phrase.Given as goal

abbrev pub invariant-loop-hit : goal.invariant-loop-hit
invariant-loop-hit g l =
    let state = g.P.PhraseHits.state in
    PassingAt l.unit l.start (state l.fn.phrase) (state l.phrase) l.fn.steps l.steps l.moved

abbrev pub decreases-loop-hit : goal.decreases-loop-hit
decreases-loop-hit g l = length ((g.P.PhraseHits.state l.phrase).rest)
