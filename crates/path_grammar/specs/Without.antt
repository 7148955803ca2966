-- Whether steps ask somewhere for text without content.
use Rattle.std.specs.Prelude.{Bool, true, false, ◌||◌}
use Rattle.path_grammar.specs.Form.{Step, step, Steps, no_steps, step_then, Predicate, number, holds, Predicates, no_predicates, predicate_then}
use Rattle.path_grammar.specs.Form.{Condition, or_of, and_of, not_of, attribute, exists, contains, Conditions, no_conditions, condition_then}
use Rattle.path_grammar.specs.Form.{Paths, no_paths, path_then}

unfoldable mutual
  pub has_without : Steps → Bool
  has_without no_steps = false
  has_without (step_then s rest) = step_has s || has_without rest

  pub step_has : Step → Bool
  step_has (step deep test predicates) = predicates_have predicates

  pub predicates_have : Predicates → Bool
  predicates_have no_predicates = false
  predicates_have (predicate_then p rest) = predicate_has p || predicates_have rest

  pub predicate_has : Predicate → Bool
  predicate_has (number k) = false
  predicate_has (holds condition) = condition_has condition

  pub condition_has : Condition → Bool
  condition_has (or_of conditions) = conditions_have conditions
  condition_has (and_of conditions) = conditions_have conditions
  condition_has (not_of condition) = condition_has condition
  condition_has (attribute name value) = false
  condition_has (exists steps) = has_without steps
  condition_has (contains steps selection no_paths) = has_without steps
  condition_has (contains steps selection (path_then path rest)) = true

  pub conditions_have : Conditions → Bool
  conditions_have no_conditions = false
  conditions_have (condition_then condition rest) = condition_has condition || conditions_have rest
