-- The operand is what was put into the box.
use Rattle.std.proofs.Common.{◌∙◌, ap}
use Rattle.all_matches.specs.Ways.{negated}
use Rattle.plan_compiler.specs.NodeCosts.{operator_cost}
use Rattle.plan_compiler.specs.Operators.{operator_at}
use Rattle.plan_compiler.proofs.OperatorViews.{at_Negated, cost_Negated}
use Rattle.plan_compiler.proofs.joining.negated_plan.Goals as goal

pub returns-in-Ok-clause-same : goal.returns-in-Ok-clause-same
returns-in-Ok-clause-same c text = at_Negated text c.in-Ok.plan ∙ ap (λ x. negated (operator_at text x.operand)) c.in-Ok.ensures.ok

pub returns-in-Ok-clause-cost : goal.returns-in-Ok-clause-cost
returns-in-Ok-clause-cost c cost = cost_Negated cost c.in-Ok.plan ∙ ap (λ x. operator_cost cost x.operand) c.in-Ok.ensures.ok
