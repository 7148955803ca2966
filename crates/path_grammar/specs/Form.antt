-- Paths as plain data, without the pointers that the type `Path` holds (XQuery 3.0, section 3.3;
-- the steps, predicates and conditions that are read here).
use Rattle.std.specs.Prelude.{ℕ, Bool, List, [], ◌∷◌, Option}
use Rattle.path_grammar.specs.declared.path.NameTest.{NameTest}
use Rattle.path_grammar.specs.declared.path.PathRoot.{PathRoot}

mutual
  -- a step: whether it is `//`, the test of names, the predicates
  pub data Step : Type 0 where
    step : Bool → NameTest → Predicates → Step

  pub data Steps : Type 0 where
    no_steps : Steps
    step_then : Step → Steps → Steps

  pub data Predicate : Type 0 where
    -- `[k]`
    number : ℕ → Predicate
    holds : Condition → Predicate

  pub data Predicates : Type 0 where
    no_predicates : Predicates
    predicate_then : Predicate → Predicates → Predicates

  pub data Condition : Type 0 where
    or_of : Conditions → Condition
    and_of : Conditions → Condition
    not_of : Condition → Condition
    -- `@n`, `@n = "v"`
    attribute : List ℕ → Option (List ℕ) → Condition
    exists : Steps → Condition
    -- the number of the selection, from 0, and the paths whose elements are ignored
    contains : Steps → ℕ → Paths → Condition

  pub data Conditions : Type 0 where
    no_conditions : Conditions
    condition_then : Condition → Conditions → Conditions

  -- paths from an element
  pub data Paths : Type 0 where
    no_paths : Paths
    path_then : Steps → Paths → Paths

pub record Path : Type 0 where
  pub root : PathRoot
  pub steps : Steps

-- the plain data of lists
abbrev pub steps : List Step → Steps
steps [] = no_steps
steps (x ∷ xs) = step_then x (steps xs)

abbrev pub predicates : List Predicate → Predicates
predicates [] = no_predicates
predicates (x ∷ xs) = predicate_then x (predicates xs)

abbrev pub conditions : List Condition → Conditions
conditions [] = no_conditions
conditions (x ∷ xs) = condition_then x (conditions xs)

abbrev pub paths : List Steps → Paths
paths [] = no_paths
paths (x ∷ xs) = path_then x (paths xs)

-- conditions joined by `or` or `and`: one alone is itself
abbrev pub joined : (Conditions → Condition) → List Condition → Condition
joined join [] = join no_conditions
joined join (x ∷ []) = x
joined join (x ∷ next ∷ rest) = join (conditions (x ∷ next ∷ rest))
