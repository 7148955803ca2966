-- The elements of a document, each with its place.
use Rattle.std.specs.Prelude.{ℕ, zero, suc, ◌+◌, Bool, List, [], ◌∷◌, ◌++◌, filter, bytes_eq, Option, Some, None}
use Rattle.std.specs.List.{list_any}
use Rattle.plain_tree.specs.Document.{Node, element, text, Nodes, no_nodes, node_then}

-- an element, and its place in its document: the number of a child at each level, from the root down. Children are numbered
-- from 1, texts among them; the place of the root is the empty list.
pub record Element : Type 0 where
  pub place : List ℕ
  pub node : Node

abbrev pub placed : List ℕ → Node → Element
placed place node = record { place = place; node = node }

-- a node where it is an element
abbrev pub element_at : List ℕ → Node → List Element
element_at place (element name attributes kids) = placed place (element name attributes kids) ∷ []
element_at place (text bytes) = []

-- the elements among the children of the element at a place, the first of which has this number
abbrev pub elements_among : List ℕ → ℕ → Nodes → List Element
elements_among above number no_nodes = []
elements_among above number (node_then node rest) = element_at (above ++ number ∷ []) node ++ elements_among above (number + 1) rest

abbrev pub kids_of : Node → Nodes
kids_of (element name attributes kids) = kids
kids_of (text bytes) = no_nodes

abbrev pub element_children : Element → List Element
element_children e = elements_among e.place 1 (kids_of e.node)

-- an element and each element below it, in document order
abbrev mutual
  pub elements_from : List ℕ → Node → List Element
  elements_from place (element name attributes kids) = placed place (element name attributes kids) ∷ elements_below place 1 kids
  elements_from place (text bytes) = []

  pub elements_below : List ℕ → ℕ → Nodes → List Element
  elements_below above number no_nodes = []
  elements_below above number (node_then node rest) = elements_from (above ++ number ∷ []) node ++ elements_below above (number + 1) rest

-- the elements of a document, in document order
abbrev pub elements : Node → List Element
elements root = elements_from [] root

-- Two elements of a document are the same where their places are.
abbrev pub is_same : Element → Element → Bool
is_same a b = bytes_eq a.place b.place

-- whether an element is in one of the lists
abbrev pub is_in : List (List Element) → Element → Bool
is_in lists e = list_any (list_any (is_same e)) lists

-- the elements that are in one of the lists, in the order of `all`, each once
abbrev pub union : List Element → List (List Element) → List Element
union all lists = filter (is_in lists) all

-- the node at a place below a node
abbrev mutual
  pub node_at : Node → List ℕ → Option Node
  node_at (element name attributes kids) [] = Some (element name attributes kids)
  node_at (element name attributes kids) (zero ∷ rest) = None
  node_at (element name attributes kids) (suc k ∷ rest) = child_at kids k rest
  node_at (text bytes) [] = Some (text bytes)
  node_at (text bytes) (number ∷ rest) = None

  -- after the first k nodes of a list
  pub child_at : Nodes → ℕ → List ℕ → Option Node
  child_at no_nodes k rest = None
  child_at (node_then node nodes) zero rest = node_at node rest
  child_at (node_then node nodes) (suc k) rest = child_at nodes k rest
