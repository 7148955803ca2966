-- What steps, predicates and conditions say of elements, by what a test says.
use Rattle.std.specs.Prelude.{ℕ, Bool, true, false, ◌||◌, ◌&&◌, List, [], ◌∷◌, filter, flat_map, if◌then◌else◌}
use Rattle.ordered_tree.specs.Numbered.{Numbered, plain}
use Rattle.path_meaning.specs.Elements.{Element, elements, element_children}
use Rattle.path_grammar.specs.Form.{Step, step, Predicate, number, holds, Predicates, no_predicates, predicate_then, Conditions}
use Rattle.path_meaning.specs.Meaning.{is_named, is_true, filtered, some_true, each_true}
use Rattle.path_nodes.specs.steps.Regions.{at_or_below, below}
use Rattle.path_nodes.specs.Says.{Meaning, satisfied}

-- the elements whose children a step offers
abbrev pub parents : Bool → List Element → List Element
parents deep contexts = if deep then flat_map at_or_below contexts else contexts

-- the elements of which a step keeps some, from one context: its children or, where it is deep, all elements below it
abbrev pub offered : Bool → Element → List Element
offered deep e = if deep then below e else element_children e

-- the same of an element that is a child of the context
abbrev pub offered_from : Bool → Element → List Element
offered_from deep e = if deep then at_or_below e else e ∷ []

-- whether a predicate is a number
abbrev pub is_number : Predicate → Bool
is_number (number k) = true
is_number (holds condition) = false

abbrev pub some_number : Predicates → Bool
some_number no_predicates = false
some_number (predicate_then p rest) = is_number p || some_number rest

-- whether one of a step's predicates is
abbrev pub has_number : Step → Bool
has_number (step deep test predicates) = some_number predicates

-- whether predicates that are no numbers keep an element, whatever else is in the list
module _ (sat : ℕ → List Element → Element → Bool) (all : List Element) where
  abbrev pub passes_by : Predicate → Element → Bool
  passes_by (number k) e = true
  passes_by (holds condition) e = is_true sat all condition e

  abbrev pub passes : Predicates → Element → Bool
  passes no_predicates e = true
  passes (predicate_then p rest) e = passes_by p e && passes rest e

-- what a step keeps of a list
abbrev pub kept : Numbered → Meaning → Step → List Element → List Element
kept root m (step deep test predicates) items = filtered (satisfied root m) (elements (plain root)) predicates (filter (λ e. is_named test e.node) items)

-- what it keeps of the children of an element
abbrev pub kept_children : Numbered → Meaning → Step → Element → List Element
kept_children root m s e = kept root m s (element_children e)

-- the truth of conditions that one of them decides: a true one where `or` joins them, a false one where `and` does
abbrev pub joined : Bool → (ℕ → List Element → Element → Bool) → List Element → Conditions → Element → Bool
joined true = some_true
joined false = each_true
