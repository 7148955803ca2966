-- The steps from a document down to an element.
use Rattle.std.specs.Prelude.{ℕ, ◌+◌, ◌-◌, Bool, false, List, [], ◌∷◌, take, count_by, slice_index_or, bytes_eq}
use Rattle.plain_tree.specs.Document.{Node, element, text, Nodes, no_nodes, node_then}

-- a step from a parent to a child: the child's name, and its number among the children of that name, from 1
pub record Step : Type 0 where
  pub name : List ℕ
  pub number : ℕ

abbrev pub step : List ℕ → ℕ → Step
step name number = record { name = name; number = number }

abbrev pub listed : Nodes → List Node
listed no_nodes = []
listed (node_then node others) = node ∷ listed others

abbrev pub children : Node → List Node
children (element name attributes kids) = listed kids
children (text bytes) = []

-- the child of this number, which counts from 1, and texts too
abbrev pub child : Node → ℕ → Node
child parent number = slice_index_or (children parent) (number - 1) (text [])

abbrev pub name_of : Node → List ℕ
name_of (element name attributes kids) = name
name_of (text bytes) = []

abbrev pub is_named : List ℕ → Node → Bool
is_named name (element own attributes kids) = bytes_eq name own
is_named name (text bytes) = false

-- the step to the child of this number: one more than the children of its name before it
abbrev pub step_to : Node → ℕ → Step
step_to parent number =
    let name = name_of (child parent number) in
    step name (count_by (is_named name) (take (number - 1) (children parent)) + 1)

-- the steps down to a place: the numbers of the children that lead to it
unfoldable pub steps_below : Node → List ℕ → List Step
steps_below node [] = []
steps_below node (number ∷ place) = step_to node number ∷ steps_below (child node number) place

-- the steps from the document, whose only child is the root, to a place below the root
abbrev pub steps_to : Node → List ℕ → List Step
steps_to root place = step (name_of root) 1 ∷ steps_below root place
