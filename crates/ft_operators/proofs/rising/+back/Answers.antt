-- A node goes back as its operands do.
use Rattle.std.proofs.Common.{refl}
use Rattle.ft_operators.specs.steps.Forms.{choice_frame, both_frame, apart_frame, negated_frame}
use Rattle.ft_operators.proofs.LeftNodes.{left_Phrase, left_Choice, left_Both, left_MildNot, left_Negated, left_Filtered, lent_Phrase, lent_Choice, lent_Both, lent_MildNot, lent_Negated, lent_Filtered}
use Rattle.ft_operators.proofs.RisingLemmas.{back_filtered, back_inside, back_one, back_phrase, back_two}
use Rattle.ft_operators.proofs.rising.+back.Goals as goal

pub go_back-returns-in-Phrase : goal.go_back-returns-in-Phrase
go_back-returns-in-Phrase g t c =
    let state = g.P.PhraseHits.state in
    back_inside _ _ _ _ _ _ (lent_Phrase state c.args.node.now c.in-Phrase.phrase c.in-Phrase.is) (left_Phrase state _) (back_phrase _ _ _ _ c.first.ensures.moved c.first.ensures.grown)

pub go_back-returns-in-Choice : goal.go_back-returns-in-Choice
go_back-returns-in-Choice g t c =
    let state = g.P.PhraseHits.state in
    let lent = c.deref_mut.result.now in
    back_inside _ _ _ _ _ _ (lent_Choice state c.args.node.now c.in-Choice.fork lent lent c.in-Choice.is c.deref_mut.ensures.value c.deref_mut.ensures.value) (left_Choice state _)
    (back_two choice_frame _ _ _ _ _ _ refl c.fork_back.ensures)

pub go_back-returns-in-Both : goal.go_back-returns-in-Both
go_back-returns-in-Both g t c =
    let state = g.P.PhraseHits.state in
    let lent = c.deref_mut-in-Both.result.now in
    back_inside _ _ _ _ _ _ (lent_Both state c.args.node.now c.in-Both.pair lent lent c.in-Both.is c.deref_mut-in-Both.ensures.value c.deref_mut-in-Both.ensures.value) (left_Both state _)
    (back_two both_frame _ _ _ _ _ _ refl c.pair_back.ensures)

pub go_back-returns-in-MildNot : goal.go_back-returns-in-MildNot
go_back-returns-in-MildNot g t c =
    let state = g.P.PhraseHits.state in
    let lent = c.deref_mut-in-MildNot.result.now in
    back_inside _ _ _ _ _ _ (lent_MildNot state c.args.node.now c.in-MildNot.pair lent lent c.in-MildNot.is c.deref_mut-in-MildNot.ensures.value c.deref_mut-in-MildNot.ensures.value) (left_MildNot state _)
    (back_two apart_frame _ _ _ _ _ _ refl c.pair_back-in-MildNot.ensures)

pub go_back-returns-in-Negated : goal.go_back-returns-in-Negated
go_back-returns-in-Negated g t c =
    let state = g.P.PhraseHits.state in
    back_inside _ _ _ _ _ _ (lent_Negated state c.args.node.now c.in-Negated.negation c.deref_mut-in-Negated.result.now c.in-Negated.is c.deref_mut-in-Negated.ensures.value) (left_Negated state _)
    (back_one negated_frame _ _ _ _ refl c.negation_back.ensures)

pub go_back-returns-in-Filtered : goal.go_back-returns-in-Filtered
go_back-returns-in-Filtered g t c =
    let state = g.P.PhraseHits.state in
    back_inside _ _ _ _ _ _ (lent_Filtered state c.args.node.now c.in-Filtered.sieve c.deref_mut-in-Filtered.result.now c.in-Filtered.is c.deref_mut-in-Filtered.ensures.value) (left_Filtered state _)
    (back_filtered _ _ c.sieve_back.ensures.same _ _ _ _ c.sieve_back.ensures.back)
