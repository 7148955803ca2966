-- A node passes what its operands do.
use Rattle.ft_operators.specs.steps.Forms.{choice_frame, both_frame, apart_frame, negated_frame}
use Rattle.ft_operators.proofs.LeftNodes.{left_Phrase, left_Choice, left_Both, left_MildNot, left_Negated, left_Filtered, lent_Phrase, lent_Choice, lent_Both, lent_MildNot, lent_Negated, lent_Filtered}
use Rattle.ft_operators.proofs.RisingLemmas.{past_filtered, past_inside, past_one, past_two}
use Rattle.ft_operators.proofs.rising.+past.Goals as goal

pub pass-returns-in-Phrase : goal.pass-returns-in-Phrase
pass-returns-in-Phrase g t c =
    let state = g.P.PhraseHits.state in
    past_inside _ _ _ _ _ _ (lent_Phrase state c.args.node.now c.in-Phrase.phrase c.in-Phrase.is) (left_Phrase state _) c.args.unit c.args.start _ c.pass_phrase.ensures

pub pass-returns-in-Choice : goal.pass-returns-in-Choice
pass-returns-in-Choice g t c =
    let state = g.P.PhraseHits.state in
    let lent = c.deref_mut.result.now in
    past_inside _ _ _ _ _ _ (lent_Choice state c.args.node.now c.in-Choice.fork lent lent c.in-Choice.is c.deref_mut.ensures.value c.deref_mut.ensures.value) (left_Choice state _) c.args.unit c.args.start _
    (past_two choice_frame _ _ _ _ _ _ c.args.unit c.args.start _ c.pass_fork.ensures)

pub pass-returns-in-Both : goal.pass-returns-in-Both
pass-returns-in-Both g t c =
    let state = g.P.PhraseHits.state in
    let lent = c.deref_mut-in-Both.result.now in
    past_inside _ _ _ _ _ _ (lent_Both state c.args.node.now c.in-Both.pair lent lent c.in-Both.is c.deref_mut-in-Both.ensures.value c.deref_mut-in-Both.ensures.value) (left_Both state _) c.args.unit c.args.start _
    (past_two both_frame _ _ _ _ _ _ c.args.unit c.args.start _ c.pass_pair.ensures)

pub pass-returns-in-MildNot : goal.pass-returns-in-MildNot
pass-returns-in-MildNot g t c =
    let state = g.P.PhraseHits.state in
    let lent = c.deref_mut-in-MildNot.result.now in
    past_inside _ _ _ _ _ _ (lent_MildNot state c.args.node.now c.in-MildNot.pair lent lent c.in-MildNot.is c.deref_mut-in-MildNot.ensures.value c.deref_mut-in-MildNot.ensures.value) (left_MildNot state _) c.args.unit c.args.start _
    (past_two apart_frame _ _ _ _ _ _ c.args.unit c.args.start _ c.pass_pair-in-MildNot.ensures)

pub pass-returns-in-Negated : goal.pass-returns-in-Negated
pass-returns-in-Negated g t c =
    let state = g.P.PhraseHits.state in
    past_inside _ _ _ _ _ _ (lent_Negated state c.args.node.now c.in-Negated.negation c.deref_mut-in-Negated.result.now c.in-Negated.is c.deref_mut-in-Negated.ensures.value) (left_Negated state _) c.args.unit c.args.start _
    (past_one negated_frame _ _ _ _ c.args.unit c.args.start _ c.pass_negation.ensures)

pub pass-returns-in-Filtered : goal.pass-returns-in-Filtered
pass-returns-in-Filtered g t c =
    let state = g.P.PhraseHits.state in
    past_inside _ _ _ _ _ _ (lent_Filtered state c.args.node.now c.in-Filtered.sieve c.deref_mut-in-Filtered.result.now c.in-Filtered.is c.deref_mut-in-Filtered.ensures.value) (left_Filtered state _) c.args.unit c.args.start _
    (past_filtered _ _ c.pass_sieve.ensures.same _ _ _ _ c.args.unit c.args.start _ c.pass_sieve.ensures.past)
