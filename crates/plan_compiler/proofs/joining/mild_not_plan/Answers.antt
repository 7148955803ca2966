-- The sides are those in the box.
use Rattle.std.proofs.Common.{◌∙◌, ◌+◌, ap}
use Rattle.all_matches.specs.Ways.{apart}
use Rattle.plan_compiler.specs.NodeCosts.{operator_cost}
use Rattle.plan_compiler.specs.Operators.{operator_at}
use Rattle.plan_compiler.proofs.OperatorViews.{at_MildNot, cost_MildNot}
use Rattle.plan_compiler.proofs.joining.mild_not_plan.Goals as goal

pub returns-clause-same : goal.returns-clause-same
returns-clause-same c text = at_MildNot text c.in_ok-boxed_sides.field-0 ∙ ap (λ x. apart (operator_at text x.left) (operator_at text x.right)) c.in_ok-boxed_sides.ensures

pub returns-clause-cost : goal.returns-clause-cost
returns-clause-cost c cost = cost_MildNot cost c.in_ok-boxed_sides.field-0 ∙ ap (λ x. operator_cost cost x.left + operator_cost cost x.right) c.in_ok-boxed_sides.ensures
