-- The tests for which steps ask where every part of every predicate is evaluated. `satisfies` says whether an element satisfies
-- the selection of a number, when what some elements hold is taken out of it; `all` has the elements of the document in document order.
use Rattle.std.specs.Prelude.{ℕ, Bool, List, [], ◌∷◌, ◌++◌, map, filter, flat_map}
use Rattle.plain_tree.specs.Document.{Node}
use Rattle.path_meaning.specs.Elements.{Element, elements}
use Rattle.path_grammar.specs.Form.{Step, step, Steps, no_steps, step_then, Predicate, number, holds, Predicates, no_predicates, predicate_then}
use Rattle.path_grammar.specs.Form.{Condition, or_of, and_of, not_of, attribute, exists, contains, Conditions, no_conditions, condition_then}
use Rattle.path_grammar.specs.Form.{Paths, no_paths, path_then}
use Rattle.path_meaning.specs.Meaning.{Context, document, item, lists, is_named, stepped, led, filtered_by}

-- whether an element satisfies the selection of a number, whatever is ignored
pub record Test : Type 0 where
  pub selection : ℕ
  pub element : Element

-- a test of each of the elements
abbrev pub each_tested : ℕ → List Element → List Test
each_tested selection items = map (λ e. record { selection = selection; element = e }) items

unfoldable mutual
  -- those of a step: its predicates ask of each of its lists, so that an element of two lists is asked for twice
  pub step_tests : (ℕ → List Element → Element → Bool) → List Element → Step → List Context → List Test
  step_tests satisfies all (step deep test predicates) contexts =
      flat_map (λ items. predicates_tests satisfies all predicates (filter (λ e. is_named test e.node) items)) (flat_map (lists deep) contexts)

  -- those of steps, one after the other
  pub steps_tests : (ℕ → List Element → Element → Bool) → List Element → Steps → List Element → List Test
  steps_tests satisfies all no_steps items = []
  steps_tests satisfies all (step_then s rest) items =
      step_tests satisfies all s (map item items) ++ steps_tests satisfies all rest (stepped satisfies all s (map item items))

  -- each predicate asks of what the ones before it have left
  pub predicates_tests : (ℕ → List Element → Element → Bool) → List Element → Predicates → List Element → List Test
  predicates_tests satisfies all no_predicates items = []
  predicates_tests satisfies all (predicate_then p rest) items =
      predicate_tests satisfies all p items ++ predicates_tests satisfies all rest (filtered_by satisfies all p items)

  pub predicate_tests : (ℕ → List Element → Element → Bool) → List Element → Predicate → List Element → List Test
  predicate_tests satisfies all (number k) items = []
  predicate_tests satisfies all (holds condition) items = flat_map (condition_tests satisfies all condition) items

  pub condition_tests : (ℕ → List Element → Element → Bool) → List Element → Condition → Element → List Test
  condition_tests satisfies all (or_of conditions) e = conditions_tests satisfies all conditions e
  condition_tests satisfies all (and_of conditions) e = conditions_tests satisfies all conditions e
  condition_tests satisfies all (not_of condition) e = condition_tests satisfies all condition e
  condition_tests satisfies all (attribute name value) e = []
  condition_tests satisfies all (exists steps) e = steps_tests satisfies all steps (e ∷ [])
  condition_tests satisfies all (contains steps selection paths) e =
      steps_tests satisfies all steps (e ∷ []) ++ ignored_tests satisfies all paths e ++ each_tested selection (led satisfies all steps (e ∷ []))

  pub conditions_tests : (ℕ → List Element → Element → Bool) → List Element → Conditions → Element → List Test
  conditions_tests satisfies all no_conditions e = []
  conditions_tests satisfies all (condition_then condition rest) e = condition_tests satisfies all condition e ++ conditions_tests satisfies all rest e

  -- those of the paths to what is ignored of an element
  pub ignored_tests : (ℕ → List Element → Element → Bool) → List Element → Paths → Element → List Test
  ignored_tests satisfies all no_paths e = []
  ignored_tests satisfies all (path_then path rest) e = steps_tests satisfies all path (e ∷ []) ++ ignored_tests satisfies all rest e

-- those of steps that lead from a document
unfoldable pub selected_tests : (ℕ → List Element → Element → Bool) → Steps → Node → List Test
selected_tests satisfies no_steps root = []
selected_tests satisfies (step_then first rest) root =
    step_tests satisfies (elements root) first (document root ∷ [])
    ++ steps_tests satisfies (elements root) rest (stepped satisfies (elements root) first (document root ∷ []))
