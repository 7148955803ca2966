-- Operands joined from the left to the right.
use Rattle.std.specs.Prelude.{◌≡◌, ℕ, ◌+◌, ◌-◌, ◌<◌, List, [], ◌∷◌, Option, Some, None}
use Rattle.all_matches.specs.Ways.{Operator, either, together}
use Rattle.plan_compiler.specs.CheapPlans.{last_word, number_after, word_number}
use Rattle.plan_compiler.specs.NodeCosts.{operator_cost}
use Rattle.plan_compiler.specs.declared.item_matching.ItemTest.{ItemTest}
use Rattle.plan_compiler.specs.declared.joining.Join.{Join}
use Rattle.plan_compiler.specs.declared.joining.Join.TheVariants.{Choice, Both}
use Rattle.plan_compiler.specs.declared.operator_plan.OperatorPlan.{OperatorPlan}

abbrev pub joined : Join → Operator → Operator → Operator
joined Choice left right = either left right
joined Both left right = together left right

-- after those that were joined before, if there were some
abbrev pub joined_after : Join → Option Operator → Operator → Operator
joined_after join None next = next
joined_after join (Some before) next = joined join before next

abbrev pub joined_from : Join → Option Operator → List Operator → Option Operator
joined_from join before [] = before
joined_from join before (next ∷ rest) = joined_from join (Some (joined_after join before next)) rest

-- what those cost that were joined before, if there were some
abbrev pub cost_before : (ItemTest → ℕ) → Option OperatorPlan → ℕ
cost_before cost None = 0
cost_before cost (Some plan) = operator_cost cost plan

-- the number of the last of the words that are joined, if all are words
abbrev pub joined_last : Join → Option ℕ → Option ℕ → Option ℕ
joined_last Choice left right = None
joined_last Both left right = number_after left right

-- after those that were joined before, if there were some
abbrev pub last_after : Join → Option OperatorPlan → OperatorPlan → Option ℕ
last_after join None next = last_word next
last_after join (Some before) next = joined_last join (last_word before) (word_number next)

-- each operand is a single word, and they are numbered from one number on to before the other
abbrev pub AreWordsFrom : ℕ → ℕ → List OperatorPlan → Type 0
AreWordsFrom first next [] = next ≡ first
AreWordsFrom first next (plan ∷ rest) = (word_number plan ≡ Some first) × AreWordsFrom (first + 1) next rest

-- what was joined of such words, if there were some, ends with the last of them
abbrev pub EndsBefore : ℕ → ℕ → Option OperatorPlan → Type 0
EndsBefore first next None = next ≡ first
EndsBefore first next (Some plan) = (last_word plan ≡ Some (next - 1)) × (first < next)
