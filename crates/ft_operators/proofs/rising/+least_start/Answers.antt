-- Where nothing is said of either operand, no hit of either is left.
use Rattle.std.proofs.Common.{◌≡◌}
use Rattle.ft_operators.specs.steps.Forms.{choice_frame, both_frame, apart_frame}
use Rattle.ft_operators.proofs.LeftNodes.{lent_Phrase, lent_Choice, lent_Both, lent_MildNot, lent_Negated, lent_Filtered}
use Rattle.ft_operators.proofs.RisingLemmas.{least_inside, least_two}
use Rattle.ft_operators.proofs.rising.+least_start.Goals as goal

pub returns-in-Phrase : goal.returns-in-Phrase
returns-in-Phrase g t c = least_inside _ _ _ (lent_Phrase g.P.PhraseHits.state c.args.node.now c.in-Phrase.phrase c.in-Phrase.is) c.phrase_start.ensures

pub returns-in-Choice : goal.returns-in-Choice
returns-in-Choice g t c =
    least_two choice_frame _ _ _ _ _ _
    (lent_Choice g.P.PhraseHits.state c.args.node.now c.in-Choice.fork c.deref.result.now c.deref-in-Choice.result.now c.in-Choice.is c.deref.ensures c.deref-in-Choice.ensures)
    c.earlier.ensures c.least_start.ensures c.least_start-in-Choice.ensures

pub returns-in-Both : goal.returns-in-Both
returns-in-Both g t c =
    least_two both_frame _ _ _ _ _ _
    (lent_Both g.P.PhraseHits.state c.args.node.now c.in-Both.pair c.deref-in-Both.result.now c.deref-in-Both-2.result.now c.in-Both.is c.deref-in-Both.ensures c.deref-in-Both-2.ensures)
    c.earlier-in-Both.ensures c.least_start-in-Both.ensures c.least_start-in-Both-2.ensures

pub returns-in-MildNot : goal.returns-in-MildNot
returns-in-MildNot g t c =
    least_two apart_frame _ _ _ _ _ _
    (lent_MildNot g.P.PhraseHits.state c.args.node.now c.in-MildNot.pair c.deref-in-MildNot.result.now c.deref-in-MildNot-2.result.now c.in-MildNot.is c.deref-in-MildNot.ensures c.deref-in-MildNot-2.ensures)
    c.earlier-in-MildNot.ensures c.least_start-in-MildNot.ensures c.least_start-in-MildNot-2.ensures

pub returns-in-Negated : goal.returns-in-Negated
returns-in-Negated g t c =
    least_inside _ _ _ (lent_Negated g.P.PhraseHits.state c.args.node.now c.in-Negated.negation c.deref-in-Negated.result.now c.in-Negated.is c.deref-in-Negated.ensures)
    (record { none = c.least_start-in-Negated.ensures.none })

pub returns-in-Filtered : goal.returns-in-Filtered
returns-in-Filtered g t c =
    least_inside _ _ _ (lent_Filtered g.P.PhraseHits.state c.args.node.now c.in-Filtered.sieve c.deref-in-Filtered.result.now c.in-Filtered.is c.deref-in-Filtered.ensures)
    (record { none = c.least_start-in-Filtered.ensures.none })
