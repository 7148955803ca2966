-- The sides are those in the box.
use Rattle.std.proofs.Common.{◌∙◌, ◌+◌, ap, sym}
use Rattle.all_matches.specs.Ways.{either, together}
use Rattle.plan_compiler.specs.CheapPlans.{last_word, number_after, word_number}
use Rattle.plan_compiler.specs.NodeCosts.{operator_cost}
use Rattle.plan_compiler.specs.Operators.{operator_at}
use Rattle.plan_compiler.specs.steps.Joins.{joined, joined_last}
use Rattle.plan_compiler.proofs.OperatorViews.{at_Both, at_Choice, cost_Both, cost_Choice, last_Both, last_Choice}
use Rattle.plan_compiler.proofs.joining.joined_plan.Goals as goal

pub returns-in-Choice-clause-same : goal.returns-in-Choice-clause-same
returns-in-Choice-clause-same c text =
    at_Choice text c.in_ok-sides.sides
    ∙ ap (λ x. either (operator_at text x.left) (operator_at text x.right)) c.in_ok-sides.ensures
    ∙ ap (λ join. joined join (operator_at text c.args.left) (operator_at text c.args.right)) (sym c.in-Choice.is)

pub returns-in-Both-clause-same : goal.returns-in-Both-clause-same
returns-in-Both-clause-same c text =
    at_Both text c.in_ok-sides.sides
    ∙ ap (λ x. together (operator_at text x.left) (operator_at text x.right)) c.in_ok-sides.ensures
    ∙ ap (λ join. joined join (operator_at text c.args.left) (operator_at text c.args.right)) (sym c.in-Both.is)

pub returns-in-Choice-clause-cost : goal.returns-in-Choice-clause-cost
returns-in-Choice-clause-cost c cost = cost_Choice cost c.in_ok-sides.sides ∙ ap (λ x. operator_cost cost x.left + operator_cost cost x.right) c.in_ok-sides.ensures

pub returns-in-Both-clause-cost : goal.returns-in-Both-clause-cost
returns-in-Both-clause-cost c cost = cost_Both cost c.in_ok-sides.sides ∙ ap (λ x. operator_cost cost x.left + operator_cost cost x.right) c.in_ok-sides.ensures

pub returns-in-Choice-clause-last : goal.returns-in-Choice-clause-last
returns-in-Choice-clause-last c =
    last_Choice c.in_ok-sides.sides ∙ ap (λ join. joined_last join (last_word c.args.left) (word_number c.args.right)) (sym c.in-Choice.is)

pub returns-in-Both-clause-last : goal.returns-in-Both-clause-last
returns-in-Both-clause-last c =
    last_Both c.in_ok-sides.sides
    ∙ ap (λ x. number_after (last_word x.left) (word_number x.right)) c.in_ok-sides.ensures
    ∙ ap (λ join. joined_last join (last_word c.args.left) (word_number c.args.right)) (sym c.in-Both.is)
