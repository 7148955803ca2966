-- Whether the ways of a node come in order is found inside, and that at the operands.
use Rattle.std.proofs.Common.{refl}
use Rattle.ft_operators.proofs.FrameLemmas.{frame_Phrase, frame_Both, frame_MildNot, frame_Filtered, framed_Phrase, framed_Choice, framed_Both, framed_MildNot, framed_Negated, framed_Filtered}
use Rattle.ft_operators.proofs.OrderedNodes.{ordered_inside, ordered_still}
use Rattle.ft_operators.proofs.ordering.+order.Goals as goal

pub comes_in_order-returns-in-Phrase : goal.comes_in_order-returns-in-Phrase
comes_in_order-returns-in-Phrase g t c =
    let state = g.P.PhraseHits.state in
    ordered_inside _ _ _ _ _ _ _ (framed_Phrase state c.args.node.now c.in-Phrase.phrase c.in-Phrase.is) (frame_Phrase state _) c.phrase_in_order.ensures

pub comes_in_order-returns-in-Choice : goal.comes_in_order-returns-in-Choice
comes_in_order-returns-in-Choice g t c = ordered_still _ _ _ _ (framed_Choice g.P.PhraseHits.state c.args.node.now c.in-Choice.field-0 c.in-Choice.field-0.value c.in-Choice.is refl) refl

pub comes_in_order-returns-in-Both : goal.comes_in_order-returns-in-Both
comes_in_order-returns-in-Both g t c =
    let state = g.P.PhraseHits.state in
    ordered_inside _ _ _ _ _ _ _ (framed_Both state c.args.node.now c.in-Both.pair c.deref_mut.result.now c.in-Both.is c.deref_mut.ensures.value) (frame_Both state _) c.both_in_order.ensures

pub comes_in_order-returns-in-MildNot : goal.comes_in_order-returns-in-MildNot
comes_in_order-returns-in-MildNot g t c =
    let state = g.P.PhraseHits.state in
    ordered_inside _ _ _ _ _ _ _ (framed_MildNot state c.args.node.now c.in-MildNot.pair c.deref_mut-in-MildNot.result.now c.in-MildNot.is c.deref_mut-in-MildNot.ensures.value) (frame_MildNot state _) c.apart_in_order.ensures

pub comes_in_order-returns-in-Negated : goal.comes_in_order-returns-in-Negated
comes_in_order-returns-in-Negated g t c = ordered_still _ _ _ _ (framed_Negated g.P.PhraseHits.state c.args.node.now c.in-Negated.field-0 c.in-Negated.field-0.value c.in-Negated.is refl) refl

pub comes_in_order-returns-in-Filtered : goal.comes_in_order-returns-in-Filtered
comes_in_order-returns-in-Filtered g t c =
    let state = g.P.PhraseHits.state in
    ordered_inside _ _ _ _ _ _ _ (framed_Filtered state c.args.node.now c.in-Filtered.sieve c.deref_mut-in-Filtered.result.now c.in-Filtered.is c.deref_mut-in-Filtered.ensures.value) (frame_Filtered state _) c.sieve_in_order.ensures
