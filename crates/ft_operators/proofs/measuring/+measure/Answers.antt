-- What is found at a node is what is found inside, and that is made of what is found at the operands.
use Rattle.ft_operators.proofs.FrameLemmas.{frame_Phrase, frame_Choice, frame_Both, frame_MildNot, frame_Negated, frame_Filtered, framed_Phrase, framed_Choice, framed_Both, framed_MildNot, framed_Negated, framed_Filtered}
use Rattle.ft_operators.proofs.MeasureLemmas.{measured_inside, measured_both, measured_apart}
use Rattle.ft_operators.proofs.measuring.+measure.Goals as goal

pub measure-returns-in-Phrase : goal.measure-returns-in-Phrase
measure-returns-in-Phrase g t c =
    let state = g.P.PhraseHits.state in
    measured_inside c.args.unit _ _ _ _ _ _ _ (framed_Phrase state c.args.node.now c.in-Phrase.phrase c.in-Phrase.is) (frame_Phrase state _) c.measure_phrase.ensures

pub measure-returns-in-Choice : goal.measure-returns-in-Choice
measure-returns-in-Choice g t c =
    let state = g.P.PhraseHits.state in
    measured_inside c.args.unit _ _ _ _ _ _ _ (framed_Choice state c.args.node.now c.in-Choice.fork c.deref_mut.result.now c.in-Choice.is c.deref_mut.ensures.value) (frame_Choice state _) c.measure_fork.ensures

pub measure-returns-in-Both : goal.measure-returns-in-Both
measure-returns-in-Both g t c =
    let state = g.P.PhraseHits.state in
    measured_inside c.args.unit _ _ _ _ _ _ _ (framed_Both state c.args.node.now c.in-Both.pair c.deref_mut-in-Both.result.now c.in-Both.is c.deref_mut-in-Both.ensures.value) (frame_Both state _)
    (measured_both c.args.unit _ _ _ _ _ _ _ _ _ c.measure_pair.ensures c.extents_of_both.ensures)

pub measure-returns-in-MildNot : goal.measure-returns-in-MildNot
measure-returns-in-MildNot g t c =
    let state = g.P.PhraseHits.state in
    measured_inside c.args.unit _ _ _ _ _ _ _ (framed_MildNot state c.args.node.now c.in-MildNot.pair c.deref_mut-in-MildNot.result.now c.in-MildNot.is c.deref_mut-in-MildNot.ensures.value) (frame_MildNot state _)
    (measured_apart c.args.unit _ _ _ _ _ _ _ _ _ c.measure_pair-in-MildNot.ensures c.extents_of_apart.ensures)

pub measure-returns-in-Negated : goal.measure-returns-in-Negated
measure-returns-in-Negated g t c =
    let state = g.P.PhraseHits.state in
    measured_inside c.args.unit _ _ _ _ _ _ _ (framed_Negated state c.args.node.now c.in-Negated.negation c.deref_mut-in-Negated.result.now c.in-Negated.is c.deref_mut-in-Negated.ensures.value) (frame_Negated state _) c.measure_negation.ensures

pub measure-returns-in-Filtered : goal.measure-returns-in-Filtered
measure-returns-in-Filtered g t c =
    let state = g.P.PhraseHits.state in
    measured_inside c.args.unit _ _ _ _ _ _ _ (framed_Filtered state c.args.node.now c.in-Filtered.sieve c.deref_mut-in-Filtered.result.now c.in-Filtered.is c.deref_mut-in-Filtered.ensures.value) (frame_Filtered state _) c.measure_sieve.ensures
