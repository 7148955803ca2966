-- Compiled selections with filters or `not in`, in which each choice of phrases is one phrase that has the variants of all.
use Rattle.std.specs.Prelude.{◌≡◌, ℕ, suc, Bool, true, false, ◌&&◌, ◌++◌, Box}
use Rattle.std.specs.Global.{Global}
use Rattle.plan_compiler.specs.declared.operator_plan.FilteredPlan.{FilteredPlan}
use Rattle.plan_compiler.specs.declared.operator_plan.NegatedPlan.{NegatedPlan}
use Rattle.plan_compiler.specs.declared.operator_plan.OperatorPlan.{OperatorPlan, Phrase, Choice', Both', MildNot', Negated', Filtered'}
use Rattle.plan_compiler.specs.declared.operator_plan.OperatorPlan as O
use Rattle.plan_compiler.specs.declared.operator_plan.OperatorSides.{OperatorSides}
use Rattle.plan_compiler.specs.declared.operator_plan.PhraseTests.{PhraseTests}

abbrev pub is_phrase : OperatorPlan → Bool
is_phrase (Phrase found) = true
is_phrase (Choice' p left right) = false
is_phrase (Both' p left right) = false
is_phrase (MildNot' p left right) = false
is_phrase (Negated' p operand) = false
is_phrase (Filtered' p operand kind) = false

-- the phrase that stands where one of two does
abbrev pub one_phrase : PhraseTests → PhraseTests → PhraseTests
one_phrase found other = record { number = found.number; variants = found.variants ++ other.variants }

-- a plan, and the same with each choice of phrases as one phrase: its phrases are numbered one after the other, from the first on to before the
-- next
pub data Unites : ℕ → ℕ → OperatorPlan → OperatorPlan → Type 0 where
  a_phrase : (first next : ℕ) (found : PhraseTests) → next ≡ suc first → Unites first next (Phrase found) (Phrase (record { number = first; variants = found.variants }))
  of_phrases : (first middle next : ℕ) (sides : Box OperatorSides Global) (found other : PhraseTests) → Unites first middle sides.value.left (Phrase found)
      → Unites middle next sides.value.right (Phrase other) → Unites first middle (O.Choice sides) (Phrase (one_phrase found other))
  choice : (first middle next : ℕ) (sides made : Box OperatorSides Global) → Unites first middle sides.value.left made.value.left
      → Unites middle next sides.value.right made.value.right → (is_phrase made.value.left && is_phrase made.value.right) ≡ false
      → Unites first next (O.Choice sides) (O.Choice made)
  both : (first middle next : ℕ) (sides made : Box OperatorSides Global) → Unites first middle sides.value.left made.value.left
      → Unites middle next sides.value.right made.value.right → Unites first next (O.Both sides) (O.Both made)
  mild_not : (first middle next : ℕ) (sides made : Box OperatorSides Global) → Unites first middle sides.value.left made.value.left
      → Unites middle next sides.value.right made.value.right → Unites first next (O.MildNot sides) (O.MildNot made)
  negated : (first next : ℕ) (plan made : Box NegatedPlan Global) → Unites first next plan.value.operand made.value.operand → Unites first next (O.Negated plan) (O.Negated made)
  filtered : (first next : ℕ) (plan made : Box FilteredPlan Global) → Unites first next plan.value.operand made.value.operand → made.value.kind ≡ plan.value.kind
      → Unites first next (O.Filtered plan) (O.Filtered made)

-- the same of two sides, of which those numbers below the middle are the left one's
pub record UnitesBoth (first middle next : ℕ) (sides made : OperatorSides) : Type 0 where
  pub left : Unites first middle sides.left made.left
  pub right : Unites middle next sides.right made.right

-- the same from 1 on
abbrev pub IsUnited : OperatorPlan → OperatorPlan → Type 0
IsUnited plan made = (next : ℕ) × Unites 1 next plan made
