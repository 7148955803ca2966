-- The sides and operands are those in the boxes.
use Rattle.std.proofs.Common.{ap, subst, sym, ◌∙◌}
use Rattle.plan_compiler.specs.steps.Uniting.{Unites, UnitesBoth, filtered, negated}
use Rattle.plan_compiler.specs.declared.operator_plan.OperatorPlan.{OperatorPlan}
use Rattle.plan_compiler.specs.declared.operator_plan.OperatorPlan as O
use Rattle.plan_compiler.specs.declared.operator_plan.OperatorSides.{OperatorSides}
use Rattle.plan_compiler.proofs.UnitingLemmas.{both_boxed, mild_not_boxed}
use Rattle.plan_compiler.proofs.uniting.+uniting.Goals as goal

pub unite-returns-in_ok-new-in-Both : goal.unite-returns-in_ok-new-in-Both
unite-returns-in_ok-new-in-Both t c =
    let first = c.args.next.now in
    let middle = c.in_ok-made-in-Both._middle in
    let next = c.unite_both-in-Both.new.next in
    let made = c.in_ok-made-in-Both.made in
    subst (λ (plan : OperatorPlan). Unites first next plan (O.Both c.in_ok-new-in-Both.field-0)) (sym c.in-Both.is)
    (both_boxed first middle next c.in-Both.sides c.in_ok-new-in-Both.field-0 made c.in_ok-new-in-Both.ensures.ok
    (subst (λ (sides : OperatorSides). UnitesBoth first middle next sides made) c.into_inner-in-Both.ensures c.in_ok-made-in-Both.ensures))

pub unite-returns-in_ok-new-in-MildNot : goal.unite-returns-in_ok-new-in-MildNot
unite-returns-in_ok-new-in-MildNot t c =
    let first = c.args.next.now in
    let middle = c.in_ok-made-in-MildNot._middle in
    let next = c.unite_both-in-MildNot.new.next in
    let made = c.in_ok-made-in-MildNot.made in
    subst (λ (plan : OperatorPlan). Unites first next plan (O.MildNot c.in_ok-new-in-MildNot.field-0)) (sym c.in-MildNot.is)
    (mild_not_boxed first middle next c.in-MildNot.sides c.in_ok-new-in-MildNot.field-0 made c.in_ok-new-in-MildNot.ensures.ok
    (subst (λ (sides : OperatorSides). UnitesBoth first middle next sides made) c.into_inner-in-MildNot.ensures c.in_ok-made-in-MildNot.ensures))

pub unite-returns-in_ok-new-in-Negated : goal.unite-returns-in_ok-new-in-Negated
unite-returns-in_ok-new-in-Negated t c =
    let first = c.args.next.now in
    let next = c.unite.new.next in
    let operand = c.in_ok-operand-in-Negated.operand in
    let made = c.in_ok-new-in-Negated.field-0 in
    subst (λ (plan : OperatorPlan). Unites first next plan (O.Negated made)) (sym c.in-Negated.is)
    (negated first next c.in-Negated.negated made
    (subst (λ (plan : OperatorPlan). Unites first next c.in-Negated.negated.value.operand plan) (sym (ap (λ x. x.operand) c.in_ok-new-in-Negated.ensures.ok))
    (subst (λ (plan : OperatorPlan). Unites first next plan operand) (ap (λ x. x.operand) c.into_inner-operand.ensures) c.in_ok-operand-in-Negated.ensures)))

pub unite-returns-in_ok-new-in-Filtered : goal.unite-returns-in_ok-new-in-Filtered
unite-returns-in_ok-new-in-Filtered t c =
    let first = c.args.next.now in
    let next = c.unite-in-Filtered.new.next in
    let operand = c.in_ok-operand-in-Filtered.operand in
    let made = c.in_ok-new-in-Filtered.field-0 in
    subst (λ (plan : OperatorPlan). Unites first next plan (O.Filtered made)) (sym c.in-Filtered.is)
    (filtered first next c.in-Filtered.filtered made
    (subst (λ (plan : OperatorPlan). Unites first next c.in-Filtered.filtered.value.operand plan) (sym (ap (λ x. x.operand) c.in_ok-new-in-Filtered.ensures.ok))
    (subst (λ (plan : OperatorPlan). Unites first next plan operand) (ap (λ x. x.operand) c.into_inner-operand-in-Filtered.ensures) c.in_ok-operand-in-Filtered.ensures))
    (ap (λ x. x.kind) c.in_ok-new-in-Filtered.ensures.ok ∙ ap (λ x. x.kind) c.into_inner-operand-in-Filtered.ensures))
