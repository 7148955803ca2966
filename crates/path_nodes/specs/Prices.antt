-- The prices of the tests for which steps ask.
use Rattle.std.specs.Prelude.{ℕ, List, filter, sum_by}
use Rattle.ordered_tree.specs.Numbered.{Numbered, plain}
use Rattle.path_meaning.specs.Elements.{Element, elements, element_children}
use Rattle.path_grammar.specs.Form.{Step, step, Steps, Predicates, Predicate, Condition, Conditions, Paths}
use Rattle.path_meaning.specs.Meaning.{Context, is_named}
use Rattle.path_nodes.specs.Says.{Meaning, reference_of, satisfied}
use Rattle.path_meaning.specs.Tests.{Test, step_tests, steps_tests, predicates_tests, predicate_tests, condition_tests, conditions_tests, ignored_tests}

-- the sum of the tests' prices
unfoldable pub price_of : Numbered → Meaning → List Test → ℕ
price_of root meaning tests = sum_by (λ t. meaning.price t.selection (reference_of root t.element)) tests

-- the same, where the price of a test is told of its element
abbrev pub total_price : (ℕ → Element → ℕ) → List Test → ℕ
total_price price tests = sum_by (λ t. price t.selection t.element) tests

-- of steps from elements
abbrev pub steps_price : Numbered → Meaning → Steps → List Element → ℕ
steps_price root m steps items = price_of root m (steps_tests (satisfied root m) (elements (plain root)) steps items)

-- of a step from contexts
abbrev pub step_price : Numbered → Meaning → Step → List Context → ℕ
step_price root m s contexts = price_of root m (step_tests (satisfied root m) (elements (plain root)) s contexts)

-- of predicates on a list
abbrev pub predicates_price : Numbered → Meaning → Predicates → List Element → ℕ
predicates_price root m predicates items = price_of root m (predicates_tests (satisfied root m) (elements (plain root)) predicates items)

-- of a step's predicates on a list that it makes
abbrev pub list_price : Numbered → Meaning → Step → List Element → ℕ
list_price root m (step deep test predicates) items = predicates_price root m predicates (filter (λ e. is_named test e.node) items)

-- of a step's predicates on the children of an element
abbrev pub children_price : Numbered → Meaning → Step → Element → ℕ
children_price root m s e = list_price root m s (element_children e)

-- of a predicate on a list
abbrev pub predicate_price : Numbered → Meaning → Predicate → List Element → ℕ
predicate_price root m predicate items = price_of root m (predicate_tests (satisfied root m) (elements (plain root)) predicate items)

-- of a condition, and of some, on an element
abbrev pub condition_price : Numbered → Meaning → Condition → Element → ℕ
condition_price root m condition e = price_of root m (condition_tests (satisfied root m) (elements (plain root)) condition e)

abbrev pub conditions_price : Numbered → Meaning → Conditions → Element → ℕ
conditions_price root m conditions e = price_of root m (conditions_tests (satisfied root m) (elements (plain root)) conditions e)

-- of the paths to what is ignored of an element
abbrev pub ignored_price : Numbered → Meaning → Paths → Element → ℕ
ignored_price root m paths e = price_of root m (ignored_tests (satisfied root m) (elements (plain root)) paths e)
