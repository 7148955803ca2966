-- No variant stands anywhere.
use Rattle.std.proofs.Common.{◌∙◌, ap}
use Rattle.all_matches.specs.Ways.{phrase}
use Rattle.std.specs.List.{sum_by}
use Rattle.plan_compiler.specs.CheapPlans.{word_number}
use Rattle.plan_compiler.specs.Operators.{hits_by_tests}
use Rattle.plan_compiler.specs.declared.operator_plan.OperatorPlan.{Phrase}
use Rattle.plan_compiler.proofs.OperatorViews.{at_Phrase, at_none, cost_Phrase, word_none}
use Rattle.plan_compiler.proofs.joining.no_hit.Goals as goal

pub returns-clause-same : goal.returns-clause-same
returns-clause-same c text =
    at_Phrase text (record { number = c.args.number; variants = c.new.result })
    ∙ ap (λ vs. phrase (hits_by_tests text c.args.number vs)) c.new.ensures
    ∙ at_none text c.args.number

pub returns-clause-cost : goal.returns-clause-cost
returns-clause-cost c cost = cost_Phrase cost (record { number = c.args.number; variants = c.new.result }) ∙ ap (sum_by (sum_by cost)) c.new.ensures

pub returns-clause-word : goal.returns-clause-word
returns-clause-word c = ap (λ vs. word_number (Phrase (record { number = c.args.number; variants = vs }))) c.new.ensures ∙ word_none c.args.number
