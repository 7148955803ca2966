-- The conditions of steps that lead somewhere, each before those inside its paths and steps.
use Rattle.std.specs.Prelude.{◌≡◌, ℕ, List, [], ◌∷◌, ◌++◌, drop, map}
use Rattle.path_grammar.specs.Form as form
use Rattle.path_grammar.specs.Form.{Step, step, Steps, no_steps, step_then, Predicate, number, holds, Predicates, no_predicates, predicate_then}
use Rattle.path_grammar.specs.Form.{Condition, or_of, and_of, not_of, attribute, exists, contains, Conditions, no_conditions, condition_then}
use Rattle.path_grammar.specs.Form.{Paths, no_paths, path_then}
use Rattle.path_grammar.specs.View as view
use Rattle.path_grammar.specs.declared.path.Step as declared

-- They are in the order of the path, but for ignored paths, which stand before the steps.
unfoldable mutual
  pub in_steps : Steps → List Condition
  in_steps no_steps = []
  in_steps (step_then s rest) = in_step s ++ in_steps rest

  pub in_step : Step → List Condition
  in_step (step deep test predicates) = in_predicates predicates

  pub in_predicates : Predicates → List Condition
  in_predicates no_predicates = []
  in_predicates (predicate_then p rest) = in_predicate p ++ in_predicates rest

  pub in_predicate : Predicate → List Condition
  in_predicate (number k) = []
  in_predicate (holds condition) = in_condition condition

  pub in_condition : Condition → List Condition
  in_condition (or_of conditions) = in_conditions conditions
  in_condition (and_of conditions) = in_conditions conditions
  in_condition (not_of condition) = in_condition condition
  in_condition (attribute name value) = []
  in_condition (exists steps) = exists steps ∷ in_steps steps
  in_condition (contains steps selection paths) = contains steps selection paths ∷ in_paths paths ++ in_steps steps

  pub in_conditions : Conditions → List Condition
  in_conditions no_conditions = []
  in_conditions (condition_then condition rest) = in_condition condition ++ in_conditions rest

  pub in_paths : Paths → List Condition
  in_paths no_paths = []
  in_paths (path_then path rest) = in_steps path ++ in_paths rest

-- A part's conditions stand among all from a number on, counted from 0.
abbrev pub StandFrom : List Condition → ℕ → List Condition → Type 0
StandFrom all from part = (rest : List Condition) × (drop from all ≡ part ++ rest)

-- those of a path's steps
abbrev pub in_path : List declared.Step → List Condition
in_path path = in_steps (form.steps (map view.step path))
