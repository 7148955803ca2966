-- Which elements of a document a path selects (XQuery 3.0, section 3.3.2: steps and predicates; XQuery and XPath Full Text 3.0,
-- section 3.7: what is ignored). `satisfies` says whether the element satisfies the selection of a number, when what some elements hold is
-- taken out of it; `all` has the elements of the document in document order.
use Rattle.std.specs.Prelude.{ℕ, ◌==◌, Bool, true, false, ◌&&◌, ◌||◌, not, if◌then◌else◌, List, [], ◌∷◌}
use Rattle.std.specs.Prelude.{map, filter, flat_map, find, Option, Some, None, option_map, bytes_eq}
use Rattle.std.specs.List.{list_any, enumerate_from}
use Rattle.plain_tree.specs.Document.{Node, element, text}
use Rattle.path_grammar.specs.declared.path.NameTest.{NameTest}
use Rattle.path_grammar.specs.declared.path.NameTest.TheVariants as T
use Rattle.path_meaning.specs.Elements.{Element, element_at, element_children, elements, elements_from, union}
use Rattle.path_grammar.specs.Form.{Step, step, Steps, no_steps, step_then, Predicate, number, holds, Predicates, no_predicates, predicate_then}
use Rattle.path_grammar.specs.Form.{Condition, or_of, and_of, not_of, attribute, exists, contains, Conditions, no_conditions, condition_then}
use Rattle.path_grammar.specs.Form.{Paths, no_paths, path_then}

-- what a step goes from: a document, seen by its root, or an element
pub data Context : Type 0 where
  document : Node → Context
  item : Element → Context

-- the only child of a document is its root
abbrev pub children : Context → List Element
children (document root) = element_at [] root
children (item e) = element_children e

-- a context and each element below it
abbrev pub with_descendants : Context → List Context
with_descendants (document root) = document root ∷ map item (elements root)
with_descendants (item e) = map item (elements_from e.place e.node)

-- the lists that a step makes: the children of a context, or of the context and each element below it
abbrev pub lists : Bool → Context → List (List Element)
lists deep context = map children (if deep then with_descendants context else context ∷ [])

abbrev pub is_named : NameTest → Node → Bool
is_named T.Any node = true
is_named (T.Name wanted) (element name attributes kids) = bytes_eq wanted name
is_named (T.Name wanted) (text bytes) = false

-- the value of the first attribute of a name, where there is one
abbrev pub value_of : List ℕ → Node → Option (List ℕ)
value_of wanted (element name attributes kids) = option_map (λ a. a.value) (find (λ a. bytes_eq a.name wanted) attributes)
value_of wanted (text bytes) = None

-- whether there is a value and, where one is wanted, it is that one
abbrev pub has_value : Option (List ℕ) → Option (List ℕ) → Bool
has_value wanted None = false
has_value None (Some value) = true
has_value (Some wanted) (Some value) = bytes_eq wanted value

-- the item of this number, counted from 1
abbrev pub numbered : ℕ → List Element → List Element
numbered k items = map (λ c. c.1) (filter (λ c. k == c.0) (enumerate_from 1 items))

abbrev pub some_element : List Element → Bool
some_element [] = false
some_element (e ∷ rest) = true

unfoldable mutual
  -- the elements to which a step leads
  pub stepped : (ℕ → List Element → Element → Bool) → List Element → Step → List Context → List Element
  stepped satisfies all (step deep test predicates) contexts =
      union all (map (λ items. filtered satisfies all predicates (filter (λ e. is_named test e.node) items)) (flat_map (lists deep) contexts))

  -- the elements to which steps lead from an element on, one after the other
  pub led : (ℕ → List Element → Element → Bool) → List Element → Steps → List Element → List Element
  led satisfies all no_steps items = items
  led satisfies all (step_then s rest) items = led satisfies all rest (stepped satisfies all s (map item items))

  -- each predicate filters what the ones before it have left
  pub filtered : (ℕ → List Element → Element → Bool) → List Element → Predicates → List Element → List Element
  filtered satisfies all no_predicates items = items
  filtered satisfies all (predicate_then p rest) items = filtered satisfies all rest (filtered_by satisfies all p items)

  pub filtered_by : (ℕ → List Element → Element → Bool) → List Element → Predicate → List Element → List Element
  filtered_by satisfies all (number k) items = numbered k items
  filtered_by satisfies all (holds condition) items = filter (is_true satisfies all condition) items

  pub is_true : (ℕ → List Element → Element → Bool) → List Element → Condition → Element → Bool
  is_true satisfies all (or_of conditions) e = some_true satisfies all conditions e
  is_true satisfies all (and_of conditions) e = each_true satisfies all conditions e
  is_true satisfies all (not_of condition) e = not (is_true satisfies all condition e)
  is_true satisfies all (attribute name wanted) e = has_value wanted (value_of name e.node)
  is_true satisfies all (exists steps) e = some_element (led satisfies all steps (e ∷ []))
  is_true satisfies all (contains steps selection paths) e = list_any (satisfies selection (ignored satisfies all paths e)) (led satisfies all steps (e ∷ []))

  pub some_true : (ℕ → List Element → Element → Bool) → List Element → Conditions → Element → Bool
  some_true satisfies all no_conditions e = false
  some_true satisfies all (condition_then condition rest) e = is_true satisfies all condition e || some_true satisfies all rest e

  pub each_true : (ℕ → List Element → Element → Bool) → List Element → Conditions → Element → Bool
  each_true satisfies all no_conditions e = true
  each_true satisfies all (condition_then condition rest) e = is_true satisfies all condition e && each_true satisfies all rest e

  -- what is ignored of an element: the elements to which one of the paths leads from it, in document order, each once
  pub ignored : (ℕ → List Element → Element → Bool) → List Element → Paths → Element → List Element
  ignored satisfies all no_paths e = []
  ignored satisfies all (path_then path rest) e = union all (led satisfies all path (e ∷ []) ∷ led_by_each satisfies all rest e)

  pub led_by_each : (ℕ → List Element → Element → Bool) → List Element → Paths → Element → List (List Element)
  led_by_each satisfies all no_paths e = []
  led_by_each satisfies all (path_then path rest) e = led satisfies all path (e ∷ []) ∷ led_by_each satisfies all rest e

-- the elements of a document to which steps lead from it
unfoldable pub selected : (ℕ → List Element → Element → Bool) → Steps → Node → List Element
selected satisfies no_steps root = []
selected satisfies (step_then first rest) root = led satisfies (elements root) rest (stepped satisfies (elements root) first (document root ∷ []))
