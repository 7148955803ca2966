-- The numbers of selections for which steps ask.
use Rattle.std.specs.Prelude.{◌≡◌, ℕ, IsTrue}
use Rattle.path_grammar.specs.Form.{Step, step, Steps, no_steps, step_then, Predicate, number, holds, Predicates, no_predicates, predicate_then}
use Rattle.path_grammar.specs.Form.{Condition, or_of, and_of, not_of, attribute, exists, contains, Conditions, no_conditions, condition_then}
use Rattle.path_grammar.specs.Form.{Paths, no_paths, path_then}
use Rattle.ordered_tree.specs.Numbered.{Numbered}
use Rattle.ordered_tree.specs.Stands.{OnNode, span}
use Rattle.ft_base.specs.declared.ids.NodeRef.{NodeRef}
use Rattle.path_nodes.specs.References.{IsElement}
use Rattle.path_nodes.specs.Says.{Meaning}

-- Something holds of each number for which steps ask.
unfoldable mutual
  pub OfEach : (ℕ → Type 0) → Steps → Type 0
  OfEach P no_steps = Unit {0}
  OfEach P (step_then s rest) = OfStep P s × OfEach P rest

  pub OfStep : (ℕ → Type 0) → Step → Type 0
  OfStep P (step deep test predicates) = OfPredicates P predicates

  pub OfPredicates : (ℕ → Type 0) → Predicates → Type 0
  OfPredicates P no_predicates = Unit {0}
  OfPredicates P (predicate_then p rest) = OfPredicate P p × OfPredicates P rest

  pub OfPredicate : (ℕ → Type 0) → Predicate → Type 0
  OfPredicate P (number k) = Unit {0}
  OfPredicate P (holds condition) = OfCondition P condition

  pub OfCondition : (ℕ → Type 0) → Condition → Type 0
  OfCondition P (or_of conditions) = OfConditions P conditions
  OfCondition P (and_of conditions) = OfConditions P conditions
  OfCondition P (not_of condition) = OfCondition P condition
  OfCondition P (attribute name value) = Unit {0}
  OfCondition P (exists steps) = OfEach P steps
  OfCondition P (contains steps selection paths) = OfEach P steps × P selection × OfPaths P paths

  pub OfConditions : (ℕ → Type 0) → Conditions → Type 0
  OfConditions P no_conditions = Unit {0}
  OfConditions P (condition_then condition rest) = OfCondition P condition × OfConditions P rest

  pub OfPaths : (ℕ → Type 0) → Paths → Type 0
  OfPaths P no_paths = Unit {0}
  OfPaths P (path_then path rest) = OfEach P path × OfPaths P rest

-- A test may be asked whether each element of the document satisfies the selection of this number, and knows where its words stand.
abbrev pub MayAsk : Numbered → Meaning → ℕ → Type 0
MayAsk root meaning selection = (r : NodeRef) → IsElement root r
    → IsTrue (meaning.may_ask selection r) × OnNode root r (λ s. meaning.span r ≡ span s)
