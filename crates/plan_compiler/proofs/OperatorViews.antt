-- What the kinds of compiled operators are over a text, and what their tests cost.
use Rattle.std.proofs.Common.{◌≡◌, refl, ap, ℕ, ◌+◌, false, ◌&&◌, List, [], ◌∷◌, map, filter, length, Some, None, Box, Global}
use Rattle.std.specs.Prelude.{is_some}
use Rattle.std.specs.List.{sum_by}
use Rattle.all_matches.specs.Hits.{Interval, hit_on, intervals}
use Rattle.all_matches.specs.Ways.{phrase, either, together, apart, negated, through_filter}
use Rattle.plan_compiler.specs.CheapPlans.{is_cheap_operator, last_word, number_after, word_number}
use Rattle.plan_compiler.specs.CheapSelections.{is_cheap_filter}
use Rattle.plan_compiler.specs.NodeCosts.{operator_cost}
use Rattle.plan_compiler.specs.Operators.{LookedText, hits_by_tests, operator_at}
use Rattle.plan_compiler.specs.declared.item_matching.ItemTest.{ItemTest}
use Rattle.plan_compiler.specs.declared.operator_plan.FilteredPlan.{FilteredPlan}
use Rattle.plan_compiler.specs.declared.operator_plan.NegatedPlan.{NegatedPlan}
use Rattle.plan_compiler.specs.declared.operator_plan.OperatorPlan as O
use Rattle.plan_compiler.specs.declared.operator_plan.OperatorSides.{OperatorSides}
use Rattle.plan_compiler.specs.declared.operator_plan.PhraseTests.{PhraseTests}

module _ (text : LookedText) where
  pub at_Phrase : (found : PhraseTests) → operator_at text (O.Phrase found) ≡ phrase (hits_by_tests text found.number found.variants)
  unfolding operator_at
  at_Phrase found = refl

  pub at_Choice : (sides : Box OperatorSides Global) → operator_at text (O.Choice sides) ≡ either (operator_at text sides.value.left) (operator_at text sides.value.right)
  unfolding operator_at
  at_Choice sides = refl

  pub at_Both : (sides : Box OperatorSides Global) → operator_at text (O.Both sides) ≡ together (operator_at text sides.value.left) (operator_at text sides.value.right)
  unfolding operator_at
  at_Both sides = refl

  pub at_MildNot : (sides : Box OperatorSides Global) → operator_at text (O.MildNot sides) ≡ apart (operator_at text sides.value.left) (operator_at text sides.value.right)
  unfolding operator_at
  at_MildNot sides = refl

  pub at_Negated : (plan : Box NegatedPlan Global) → operator_at text (O.Negated plan) ≡ negated (operator_at text plan.value.operand)
  unfolding operator_at
  at_Negated plan = refl

  pub at_Filtered : (plan : Box FilteredPlan Global) → operator_at text (O.Filtered plan) ≡ through_filter (operator_at text plan.value.operand) plan.value.kind
  unfolding operator_at
  at_Filtered plan = refl

  none_kept : (all : List Interval) → filter (λ (interval : Interval). false) all ≡ []
  none_kept [] = refl
  none_kept (interval ∷ rest) = none_kept rest

  -- a phrase without variants stands nowhere
  pub at_none : (number : ℕ) → phrase (hits_by_tests text number []) ≡ phrase []
  at_none number = ap (λ (found : List Interval). phrase (map (hit_on text.tokens number) found)) (none_kept (intervals (length text.tokens)))

-- ---- what their tests cost

module _ (cost : ItemTest → ℕ) where
  pub cost_Phrase : (found : PhraseTests) → operator_cost cost (O.Phrase found) ≡ sum_by (sum_by cost) found.variants
  unfolding operator_cost
  cost_Phrase found = refl

  pub cost_Choice : (sides : Box OperatorSides Global) → operator_cost cost (O.Choice sides) ≡ operator_cost cost sides.value.left + operator_cost cost sides.value.right
  unfolding operator_cost
  cost_Choice sides = refl

  pub cost_Both : (sides : Box OperatorSides Global) → operator_cost cost (O.Both sides) ≡ operator_cost cost sides.value.left + operator_cost cost sides.value.right
  unfolding operator_cost
  cost_Both sides = refl

  pub cost_MildNot : (sides : Box OperatorSides Global) → operator_cost cost (O.MildNot sides) ≡ operator_cost cost sides.value.left + operator_cost cost sides.value.right
  unfolding operator_cost
  cost_MildNot sides = refl

  pub cost_Negated : (plan : Box NegatedPlan Global) → operator_cost cost (O.Negated plan) ≡ operator_cost cost plan.value.operand
  unfolding operator_cost
  cost_Negated plan = refl

  pub cost_Filtered : (plan : Box FilteredPlan Global) → operator_cost cost (O.Filtered plan) ≡ operator_cost cost plan.value.operand
  unfolding operator_cost
  cost_Filtered plan = refl

-- ---- which words they join

pub last_Choice : (sides : Box OperatorSides Global) → last_word (O.Choice sides) ≡ None
unfolding last_word
last_Choice sides = refl

pub last_Both : (sides : Box OperatorSides Global) → last_word (O.Both sides) ≡ number_after (last_word sides.value.left) (word_number sides.value.right)
unfolding last_word
last_Both sides = refl

pub word_none : (number : ℕ) → word_number (O.Phrase (record { number = number; variants = [] })) ≡ Some number
word_none number = refl

pub cheap_Filtered : (plan : Box FilteredPlan Global) → is_cheap_operator (O.Filtered plan) ≡ (is_cheap_filter plan.value.kind && is_some (last_word plan.value.operand))
cheap_Filtered plan = refl
