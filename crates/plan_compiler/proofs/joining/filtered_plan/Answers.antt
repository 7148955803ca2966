-- The operand is what was put into the box.
use Rattle.std.proofs.Common.{◌∙◌, ◌&&◌, ap}
use Rattle.std.specs.Prelude.{is_some}
use Rattle.all_matches.specs.Ways.{through_filter}
use Rattle.plan_compiler.specs.CheapPlans.{last_word}
use Rattle.plan_compiler.specs.CheapSelections.{is_cheap_filter}
use Rattle.plan_compiler.specs.NodeCosts.{operator_cost}
use Rattle.plan_compiler.specs.Operators.{operator_at}
use Rattle.plan_compiler.proofs.OperatorViews.{at_Filtered, cheap_Filtered, cost_Filtered}
use Rattle.plan_compiler.proofs.joining.filtered_plan.Goals as goal

pub returns-in-Ok-clause-same : goal.returns-in-Ok-clause-same
returns-in-Ok-clause-same c text = at_Filtered text c.in-Ok.plan ∙ ap (λ x. through_filter (operator_at text x.operand) x.kind) c.in-Ok.ensures.ok

pub returns-in-Ok-clause-cost : goal.returns-in-Ok-clause-cost
returns-in-Ok-clause-cost c cost = cost_Filtered cost c.in-Ok.plan ∙ ap (λ x. operator_cost cost x.operand) c.in-Ok.ensures.ok

pub returns-in-Ok-clause-cheap : goal.returns-in-Ok-clause-cheap
returns-in-Ok-clause-cheap c = cheap_Filtered c.in-Ok.plan ∙ ap (λ x. is_cheap_filter x.kind && is_some (last_word x.operand)) c.in-Ok.ensures.ok
