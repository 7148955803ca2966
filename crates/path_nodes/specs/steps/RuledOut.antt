-- What is true of no element in a stretch of a document's words, and steps that lead nowhere there.
use Rattle.std.specs.Prelude.{◌≡◌, ◌≤◌, ℕ, true, false, List, [], All}
use Rattle.std.specs.List.{Contains}
use Rattle.ordered_tree.specs.Numbered.{Numbered, is_element, plain}
use Rattle.ordered_tree.specs.Stands.{span}
use Rattle.path_grammar.specs.Form.{Condition, Predicate, Predicates, Steps}
use Rattle.path_meaning.specs.Elements.{Element, elements, placed}
use Rattle.path_meaning.specs.Meaning.{filtered, filtered_by, is_true, led, selected}
use Rattle.path_nodes.specs.Prices.{predicates_price}
use Rattle.path_nodes.specs.References.{Spot, spots_in, spot_element}
use Rattle.path_nodes.specs.Says.{Meaning, satisfied}
use Rattle.path_nodes.specs.steps.Regions.{at_or_below}

-- An element of the document whose words stand from a position on and before another.
pub record StandsWithin (root : Numbered) (from to : ℕ) (e : Element) : Type 0 where
  pub spot : Spot
  pub among : Contains (spots_in root) spot
  pub element : is_element spot.stand.node ≡ true
  pub is : spot_element spot ≡ e
  pub after : from ≤ (span spot.stand).from
  pub ends_before : (span spot.stand).to ≤ to

-- No element of the stretch satisfies the selection.
abbrev pub HasNone : Numbered → Meaning → ℕ → ℕ → ℕ → Type 0
HasNone root m from to selection = (e : Element) → StandsWithin root from to e → satisfied root m selection [] e ≡ false

-- The condition is false of each element of the stretch.
abbrev pub IsFalse : Numbered → Meaning → ℕ → ℕ → Condition → Type 0
IsFalse root m from to condition = (e : Element) → StandsWithin root from to e → is_true (satisfied root m) (elements (plain root)) condition e ≡ false

-- The predicate keeps none of elements of the stretch, or predicates don't.
abbrev pub KeepsNothing : Numbered → Meaning → ℕ → ℕ → Predicate → Type 0
KeepsNothing root m from to predicate =
    (items : List Element) → All (StandsWithin root from to) items → filtered_by (satisfied root m) (elements (plain root)) predicate items ≡ []

abbrev pub KeepNothing : Numbered → Meaning → ℕ → ℕ → Predicates → Type 0
KeepNothing root m from to predicates =
    (items : List Element) → All (StandsWithin root from to) items → filtered (satisfied root m) (elements (plain root)) predicates items ≡ []

-- The steps lead to no element from elements of the stretch, nor from the document itself where it is all in the stretch.
pub record LeadNowhere (root : Numbered) (m : Meaning) (from to : ℕ) (all : Steps) : Type 0 where
  pub from_elements : (items : List Element) → All (StandsWithin root from to) items → led (satisfied root m) (elements (plain root)) all items ≡ []
  pub from_document : StandsWithin root from to (placed [] (plain root)) → selected (satisfied root m) all (plain root) ≡ []

-- Predicates keep none of elements at or below this one.
abbrev pub KeepNoneUnder : Numbered → Meaning → Predicates → Element → Type 0
KeepNoneUnder root m predicates e =
    (items : List Element) → All (Contains (at_or_below e)) items → filtered (satisfied root m) (elements (plain root)) predicates items ≡ []

-- Of these elements predicates keep what they keep of others, and asking them costs no more.
pub record Suffice (root : Numbered) (m : Meaning) (predicates : Predicates) (found others : List Element) : Type 0 where
  pub kept : filtered (satisfied root m) (elements (plain root)) predicates found ≡ filtered (satisfied root m) (elements (plain root)) predicates others
  pub price : predicates_price root m predicates found ≤ predicates_price root m predicates others
