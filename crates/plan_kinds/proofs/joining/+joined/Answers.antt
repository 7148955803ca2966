-- Each kind has the phrases that it joins.
use Rattle.std.proofs.Common.{◌∙◌, sym, ap, Some}
use Rattle.plan_compiler.specs.declared.operator_plan.OperatorSides.{OperatorSides}
use Rattle.plan_kinds.specs.steps.JoinedPhrases.{joined_of, one_more, phrase_of}
use Rattle.plan_kinds.proofs.joining.+joined.Goals as goal

pub joined_of-returns-in-Phrase : goal.joined_of-returns-in-Phrase
unfolding joined_of
joined_of-returns-in-Phrase t c = ap Some c.alone.ensures ∙ sym (ap joined_of c.in-Phrase.is)

pub joined_of-returns-in-Choice : goal.joined_of-returns-in-Choice
unfolding joined_of
joined_of-returns-in-Choice t c = sym (ap joined_of c.in-Choice.is)

pub joined_of-returns-in-Both : goal.joined_of-returns-in-Both
unfolding joined_of
joined_of-returns-in-Both t c =
    c.joined_sides.ensures
    ∙ ap (λ (sides : OperatorSides). one_more (joined_of sides.left) (phrase_of sides.right)) c.deref.ensures
    ∙ sym (ap joined_of c.in-Both.is)

pub joined_of-returns-in-MildNot : goal.joined_of-returns-in-MildNot
unfolding joined_of
joined_of-returns-in-MildNot t c = sym (ap joined_of c.in-MildNot.is)

pub joined_of-returns-in-Negated : goal.joined_of-returns-in-Negated
unfolding joined_of
joined_of-returns-in-Negated t c = sym (ap joined_of c.in-Negated.is)

pub joined_of-returns-in-Filtered : goal.joined_of-returns-in-Filtered
unfolding joined_of
joined_of-returns-in-Filtered t c = sym (ap joined_of c.in-Filtered.is)
