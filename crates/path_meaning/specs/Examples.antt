-- Documents and paths for examples.
use Rattle.std.specs.Prelude.{ℕ, ◌+◌, ◌==◌, nat_eq, Bool, false, ◌&&◌, ◌||◌, List, [], ◌∷◌, ◌++◌, map, codes, if◌then◌else◌}
use Rattle.std.specs.List.{list_any, starts_with}
use Rattle.plain_tree.specs.Document.{Node, element, text, Nodes, no_nodes, node_then, nodes}
use Rattle.path_meaning.specs.Elements.{Element, elements, placed}
use Rattle.path_grammar.specs.Form.{Step, Steps, steps, paths}
use Rattle.path_meaning.specs.Meaning.{ignored, selected}
use Rattle.path_meaning.specs.Tests.{selected_tests}

abbrev pub elem : List ℕ → List Node → Node
elem name kids = element name [] (nodes kids)

-- the texts of the node at a place, one after the other, but for those in ignored elements
abbrev mutual
  pub text_without : List Element → List ℕ → Node → List ℕ
  text_without ignored place (element name attributes kids) =
      if list_any (λ e. starts_with nat_eq place e.place) ignored then [] else texts_without ignored place 1 kids
  text_without ignored place (text bytes) = bytes

  pub texts_without : List Element → List ℕ → ℕ → Nodes → List ℕ
  texts_without ignored above number no_nodes = []
  texts_without ignored above number (node_then node rest) =
      text_without ignored (above ++ number ∷ []) node ++ texts_without ignored above (number + 1) rest

-- whether bytes stand somewhere in others
abbrev pub stand_in : List ℕ → List ℕ → Bool
stand_in wanted [] = false
stand_in wanted (byte ∷ rest) = starts_with nat_eq (byte ∷ rest) wanted || stand_in wanted rest

-- an element satisfies the selection 0 where these bytes stand in its texts, but for those that are ignored
abbrev pub has_text : List ℕ → ℕ → List Element → Element → Bool
has_text wanted selection ignored e = selection == 0 && stand_in wanted (text_without ignored e.place e.node)

-- no element satisfies any selection
abbrev pub nothing : ℕ → List Element → Element → Bool
nothing selection ignored e = false

-- the places of the elements that steps select
abbrev pub places : (ℕ → List Element → Element → Bool) → List Step → Node → List (List ℕ)
places satisfies path root = map (λ e. e.place) (selected satisfies (steps path) root)

-- the places of the elements to which paths lead from the root
abbrev pub ignored_places : (ℕ → List Element → Element → Bool) → List Steps → Node → List (List ℕ)
ignored_places satisfies ignoring root = map (λ e. e.place) (ignored satisfies (elements root) (paths ignoring) (placed [] root))

-- the pairs of a selection and a place that steps ask for
abbrev pub tested_places : (ℕ → List Element → Element → Bool) → List Step → Node → List (ℕ × List ℕ)
tested_places satisfies path root = map (λ t. (t.selection, t.element.place)) (selected_tests satisfies (steps path) root)

-- `<a><b>x</b><b>y</b><c><b>x y</b></c></a>`
abbrev pub letters : Node
letters =
    elem (codes "a") (elem (codes "b") (text (codes "x") ∷ []) ∷ elem (codes "b") (text (codes "y") ∷ [])
    ∷ elem (codes "c") (elem (codes "b") (text (codes "x y") ∷ []) ∷ []) ∷ [])

-- `<a>x <a>y</a> z</a>`
abbrev pub nested : Node
nested = elem (codes "a") (text (codes "x ") ∷ elem (codes "a") (text (codes "y") ∷ []) ∷ text (codes " z") ∷ [])

-- `<a><a><a/></a></a>`
abbrev pub three_deep : Node
three_deep = elem (codes "a") (elem (codes "a") (elem (codes "a") [] ∷ []) ∷ [])

-- `<a t="1">xy <b/></a>`
abbrev pub with_attribute : Node
with_attribute = element (codes "a") (record { name = codes "t"; value = codes "1" } ∷ []) (nodes (text (codes "xy ") ∷ elem (codes "b") [] ∷ []))

-- an element with the attributes `t="1"` and `t="2"`, which no document has that can be read
abbrev pub with_two_of_one_name : Node
with_two_of_one_name = element (codes "a") (record { name = codes "t"; value = codes "1" } ∷ record { name = codes "t"; value = codes "2" } ∷ []) (nodes [])
