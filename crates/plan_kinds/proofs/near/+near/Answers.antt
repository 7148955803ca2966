-- Each kind is near where its operands are.
use Rattle.std.proofs.Common.{◌∙◌, ◌&&◌, sym, ap}
use Rattle.phrase_merges.specs.Near.{is_field}
use Rattle.plan_compiler.specs.declared.operator_plan.FilteredPlan.{FilteredPlan}
use Rattle.plan_compiler.specs.declared.operator_plan.OperatorSides.{OperatorSides}
use Rattle.plan_kinds.specs.steps.NearPlans.{is_near}
use Rattle.plan_kinds.proofs.near.+near.Goals as goal

pub is_near-returns-in-Phrase : goal.is_near-returns-in-Phrase
unfolding is_near
is_near-returns-in-Phrase t c = sym (ap is_near c.in-Phrase.is)

pub is_near-returns-in-Choice : goal.is_near-returns-in-Choice
unfolding is_near
is_near-returns-in-Choice t c = c.are_near.ensures ∙ ap (λ (sides : OperatorSides). is_near sides.left && is_near sides.right) c.deref.ensures ∙ sym (ap is_near c.in-Choice.is)

pub is_near-returns-in-Both : goal.is_near-returns-in-Both
unfolding is_near
is_near-returns-in-Both t c =
    c.are_near-in-Both.ensures ∙ ap (λ (sides : OperatorSides). is_near sides.left && is_near sides.right) c.deref-in-Both.ensures ∙ sym (ap is_near c.in-Both.is)

pub is_near-returns-in-MildNot : goal.is_near-returns-in-MildNot
unfolding is_near
is_near-returns-in-MildNot t c = sym (ap is_near c.in-MildNot.is)

pub is_near-returns-in-Negated : goal.is_near-returns-in-Negated
unfolding is_near
is_near-returns-in-Negated t c = sym (ap is_near c.in-Negated.is)

pub is_near-returns-in-Filtered : goal.is_near-returns-in-Filtered
unfolding is_near
is_near-returns-in-Filtered t c =
    c.is_field_over.ensures ∙ ap (λ (plan : FilteredPlan). is_field plan.kind && is_near plan.operand) c.deref-in-Filtered.ensures ∙ sym (ap is_near c.in-Filtered.is)
