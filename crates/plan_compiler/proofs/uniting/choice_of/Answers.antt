-- The left side is no phrase, and the sides are those in the box.
use Rattle.std.proofs.Common.{◌&&◌, ap, subst, sym, ◌∙◌}
use Rattle.plan_compiler.specs.steps.Uniting.{Unites, is_phrase}
use Rattle.plan_compiler.specs.declared.operator_plan.OperatorPlan.{OperatorPlan}
use Rattle.plan_compiler.proofs.UnitingLemmas.{choice_boxed}
use Rattle.plan_compiler.proofs.uniting.choice_of.Goals as goal

pub returns-in_ok-new-in-Err : goal.returns-in_ok-new-in-Err
returns-in_ok-new-in-Err c first before both =
    choice_boxed first c.args.middle c.args.next.now before c.in_ok-new-in-Err.field-0 (record { left = c.in-Err.left; right = c.args.sides.right }) c.in_ok-new-in-Err.ensures.ok
    (record { left = subst (λ (plan : OperatorPlan). Unites first c.args.middle before.value.left plan) (sym c.in-Err.ensures.0) both.left; right = both.right })
    (ap (λ t. t && is_phrase c.args.sides.right) (ap is_phrase c.in-Err.ensures.0 ∙ c.in-Err.ensures.1))
