-- The first operands were joined.
use Rattle.std.proofs.Common.{◌≡◌, ℕ, [], ◌∷◌, map, None, Some}
use Rattle.std.specs.List.{sum_by}
use Rattle.std.specs.Prelude.{option_map}
use Rattle.plan_compiler.specs.NodeCosts.{operator_cost}
use Rattle.plan_compiler.specs.Operators.{LookedText, operator_at}
use Rattle.plan_compiler.specs.declared.item_matching.ItemTest.{ItemTest}
use Rattle.plan_compiler.specs.declared.joining.Join.TheVariants.{Both}
use Rattle.plan_compiler.specs.declared.operator_plan.OperatorPlan.{OperatorPlan}
use Rattle.plan_compiler.specs.steps.Joins.{AreWordsFrom, EndsBefore, cost_before, joined_from}
use Rattle.plan_compiler.proofs.joining.join_some.Given as goal

abbrev pub invariant-loop-next : goal.invariant-loop-next
invariant-loop-next l = record {
  same : (text : LookedText) → option_map (operator_at text) l.before ≡ joined_from l.join None (map (operator_at text) l.yielded);
  cost : (cost : ItemTest → ℕ) → cost_before cost l.before ≡ sum_by (operator_cost cost) l.yielded;
  none : l.yielded ≡ [] → l.before ≡ None;
  alone : (one : OperatorPlan) → l.yielded ≡ one ∷ [] → l.before ≡ Some one;
  words : (first next : ℕ) → l.join ≡ Both → AreWordsFrom first next l.yielded → EndsBefore first next l.before;
}
