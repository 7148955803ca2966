-- Two phrases are one; otherwise the sides are those in the box.
use Rattle.std.proofs.Common.{◌≡◌, ℕ, Box, ap, subst, sym, ◌∙◌}
use Rattle.std.specs.Global.{Global as G}
use Rattle.std.proofs.lemmas.Result.{IfOk-weaker}
use Rattle.plan_compiler.specs.steps.Uniting.{Unites, is_phrase, of_phrases, one_phrase}
use Rattle.plan_compiler.specs.declared.operator_plan.OperatorPlan.{OperatorPlan}
use Rattle.plan_compiler.specs.declared.operator_plan.OperatorPlan as O
use Rattle.plan_compiler.specs.declared.operator_plan.OperatorSides.{OperatorSides}
use Rattle.plan_compiler.proofs.UnitingLemmas.{choice_boxed}
use Rattle.plan_compiler.proofs.uniting.choice_after.Goals as goal

pub returns-in-Ok : goal.returns-in-Ok
returns-in-Ok c =
    let middle = c.args.middle in
    let next = c.args.next.now in
    let found = c.args.found in
    let other = c.in-Ok.other in
    IfOk-weaker c.one_phrase_of.result (λ (made : OperatorPlan). made ≡ O.Phrase (one_phrase found other))
    (λ (made : OperatorPlan). (first : ℕ) → (before : Box OperatorSides G) → Unites first middle before.value.left (O.Phrase found) → Unites middle next before.value.right c.args.right
    → Unites first middle (O.Choice before) made)
    (λ made is first before left right.
    subst (λ (plan : OperatorPlan). Unites first middle (O.Choice before) plan) (sym is)
    (of_phrases first middle next before found other left (subst (λ (plan : OperatorPlan). Unites middle next before.value.right plan) c.in-Ok.ensures right)))
    c.one_phrase_of.ensures

pub returns-in_ok-new-in-Err : goal.returns-in_ok-new-in-Err
returns-in_ok-new-in-Err c first before left right =
    choice_boxed first c.args.middle c.args.next.now before c.in_ok-new-in-Err.field-0 (record { left = O.Phrase c.args.found; right = c.in-Err.right }) c.in_ok-new-in-Err.ensures.ok
    (record { left = left; right = subst (λ (plan : OperatorPlan). Unites c.args.middle c.args.next.now before.value.right plan) (sym c.in-Err.ensures.0) right })
    (ap is_phrase c.in-Err.ensures.0 ∙ c.in-Err.ensures.1)
