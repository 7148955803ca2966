-- What a document is (the data model's tree of elements, attributes and texts).
use Rattle.std.specs.Prelude.{ℕ, Bool, true, false, ◌&&◌, not, List, [], ◌∷◌}
use Rattle.ft_base.specs.Lists.{is_empty}
use Rattle.plain_tree.specs.declared.tree.Attr.{Attr}

-- An element has a name, attributes and children in order. Names, values and texts are bytes of UTF-8.
mutual
  pub data Node : Type 0 where
    element : List ℕ → List Attr → Nodes → Node
    text : List ℕ → Node

  pub data Nodes : Type 0 where
    no_nodes : Nodes
    node_then : Node → Nodes → Nodes

-- the nodes of a list, in order
abbrev pub nodes : List Node → Nodes
nodes [] = no_nodes
nodes (n ∷ ns) = node_then n (nodes ns)

abbrev pub is_text : Node → Bool
is_text (element name attrs kids) = false
is_text (text bytes) = true

abbrev pub begins_with_text : Nodes → Bool
begins_with_text no_nodes = false
begins_with_text (node_then n ns) = is_text n

-- no text is empty, and no two texts are neighbours in a list of children
abbrev mutual
  pub is_joined : Node → Bool
  is_joined (element name attrs kids) = are_joined kids
  is_joined (text bytes) = not (is_empty bytes)

  pub are_joined : Nodes → Bool
  are_joined no_nodes = true
  are_joined (node_then n ns) = is_joined n && not (is_text n && begins_with_text ns) && are_joined ns

-- a document is an element whose texts are joined
abbrev pub is_document : Node → Bool
is_document n = not (is_text n) && is_joined n
