-- What was joined is the whole.
use Rattle.std.proofs.Common.{◌≡◌, ◌∙◌, ℕ, ◌-◌, ◌<◌, ap, sym, subst, map, [], ◌∷◌, Some, arith}
use Rattle.std.specs.List.{sum_by}
use Rattle.std.specs.Prelude.{option_map}
use Rattle.std.proofs.lemmas.Option.{none-some, same_Some}
use Rattle.std.proofs.lemmas.Result.{IfOk-weaker}
use Rattle.plan_compiler.specs.CheapPlans.{last_word}
use Rattle.plan_compiler.specs.NodeCosts.{operator_cost}
use Rattle.plan_compiler.specs.Operators.{LookedText, joined_of, operator_at}
use Rattle.plan_compiler.specs.declared.item_matching.ItemTest.{ItemTest}
use Rattle.plan_compiler.specs.declared.operator_plan.OperatorPlan.{OperatorPlan}
use Rattle.plan_compiler.specs.declared.joining.Join.TheVariants.{Both}
use Rattle.plan_compiler.specs.steps.Joins.{AreWordsFrom, EndsBefore, cost_before}
use Rattle.plan_compiler.proofs.JoinLemmas.{all_joined, whole}
use Rattle.plan_compiler.proofs.joining.join_operands.Goals as goal

pub returns-in-Some-clause-same : goal.returns-in-Some-clause-same
returns-in-Some-clause-same c text =
    ap (λ o. whole c.args.join (option_map (operator_at text) o)) (sym c.in-Some.is)
    ∙ ap (whole c.args.join) (c.in_ok-joined.ensures.same text)
    ∙ all_joined c.args.join (map (operator_at text) c.args.operands)

pub returns-in-Some-clause-cost : goal.returns-in-Some-clause-cost
returns-in-Some-clause-cost c cost = ap (cost_before cost) (sym c.in-Some.is) ∙ c.in_ok-joined.ensures.cost cost

pub returns-in-None-clause-same : goal.returns-in-None-clause-same
returns-in-None-clause-same c =
    IfOk-weaker c.without_operands.result (λ (plan : OperatorPlan). (text : LookedText) → operator_at text plan ≡ joined_of c.args.join [])
    (λ (plan : OperatorPlan). (text : LookedText) → operator_at text plan ≡ joined_of c.args.join (map (operator_at text) c.args.operands))
    (λ plan none text.
    none text
    ∙ ap (λ o. whole c.args.join (option_map (operator_at text) o)) (sym c.in-None.is)
    ∙ ap (whole c.args.join) (c.in_ok-joined.ensures.same text)
    ∙ all_joined c.args.join (map (operator_at text) c.args.operands))
    c.without_operands.ensures.same

pub returns-in-None-clause-cost : goal.returns-in-None-clause-cost
returns-in-None-clause-cost c =
    IfOk-weaker c.without_operands.result (λ (plan : OperatorPlan). (cost : ItemTest → ℕ) → operator_cost cost plan ≡ 0)
    (λ (plan : OperatorPlan). (cost : ItemTest → ℕ) → operator_cost cost plan ≡ sum_by (operator_cost cost) c.args.operands)
    (λ plan none cost. none cost ∙ ap (cost_before cost) (sym c.in-None.is) ∙ c.in_ok-joined.ensures.cost cost)
    c.without_operands.ensures.cost

pub returns-in-Some-clause-alone : goal.returns-in-Some-clause-alone
returns-in-Some-clause-alone c one is = same_Some c.in-Some.plan one (sym c.in-Some.is ∙ c.in_ok-joined.ensures.alone one is)

pub returns-in-Some-clause-words : goal.returns-in-Some-clause-words
returns-in-Some-clause-words c first next both words below =
    (subst (EndsBefore first next) c.in-Some.is (c.in_ok-joined.ensures.words first next both words)).0

pub returns-in-None-clause-alone : goal.returns-in-None-clause-alone
returns-in-None-clause-alone c =
    IfOk-weaker c.without_operands.result (λ (plan : OperatorPlan). (text : LookedText) → operator_at text plan ≡ joined_of c.args.join [])
    (λ (plan : OperatorPlan). (one : OperatorPlan) → c.args.operands ≡ one ∷ [] → plan ≡ one)
    (λ plan none one is. absurd (none-some one (sym c.in-None.is ∙ c.in_ok-joined.ensures.alone one is)))
    c.without_operands.ensures.same

pub returns-in-None-clause-words : goal.returns-in-None-clause-words
returns-in-None-clause-words c =
    IfOk-weaker c.without_operands.result (λ (plan : OperatorPlan). (text : LookedText) → operator_at text plan ≡ joined_of c.args.join [])
    (λ (plan : OperatorPlan). (first next : ℕ) → c.args.join ≡ Both → AreWordsFrom first next c.args.operands → first < next → last_word plan ≡ Some (next - 1))
    (λ plan none first next both words below.
    let same : next ≡ first = subst (EndsBefore first next) c.in-None.is (c.in_ok-joined.ensures.words first next both words) in
    absurd (omega (arith, same, below)))
    c.without_operands.ensures.same
