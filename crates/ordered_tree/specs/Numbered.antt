-- A document whose nodes have references, by which the calls name them.
use Rattle.std.specs.Prelude.{ℕ, Bool, true, false, List, [], ◌∷◌, bytes_eq, if◌then◌else◌, Option, Some, None}
use Rattle.plain_tree.specs.Document.{Node, element, text, Nodes, no_nodes, node_then}
use Rattle.plain_tree.specs.declared.tree.Attr.{Attr}
use Rattle.ft_base.specs.declared.ids.NodeRef.{NodeRef}

mutual
  -- an element with its name, its attributes and its children, or a text
  pub data Numbered : Type 0 where
    element_at : NodeRef → List ℕ → List Attr → Children → Numbered
    text_at : NodeRef → List ℕ → Numbered

  pub data Children : Type 0 where
    no_children : Children
    child_then : Numbered → Children → Children

abbrev mutual
  -- the node without references
  pub plain : Numbered → Node
  plain (element_at r name attrs kids) = element name attrs (plain_children kids)
  plain (text_at r bytes) = text bytes

  pub plain_children : Children → Nodes
  plain_children no_children = no_nodes
  plain_children (child_then n ns) = node_then (plain n) (plain_children ns)

abbrev pub reference : Numbered → NodeRef
reference (element_at r name attrs kids) = r
reference (text_at r bytes) = r

abbrev pub is_element : Numbered → Bool
is_element (element_at r name attrs kids) = true
is_element (text_at r bytes) = false

abbrev pub name_of : Numbered → Option (List ℕ)
name_of (element_at r name attrs kids) = Some name
name_of (text_at r bytes) = None

-- whether it is an element of a name
abbrev pub has_name : List ℕ → Numbered → Bool
has_name name (element_at r own attrs kids) = bytes_eq name own
has_name name (text_at r bytes) = false

abbrev pub attrs_of : Numbered → List Attr
attrs_of (element_at r name attrs kids) = attrs
attrs_of (text_at r bytes) = []

-- the value of the first attribute of a name
abbrev pub attribute : List ℕ → List Attr → Option (List ℕ)
attribute name [] = None
attribute name (attr ∷ attrs) = if bytes_eq attr.name name then Some attr.value else attribute name attrs

abbrev pub children : Numbered → Children
children (element_at r name attrs kids) = kids
children (text_at r bytes) = no_children

abbrev pub first_of : Children → Option NodeRef
first_of no_children = None
first_of (child_then n ns) = Some (reference n)

-- the last of the children, or `before` where there is none
abbrev pub last_from : Option NodeRef → Children → Option NodeRef
last_from before no_children = before
last_from before (child_then n ns) = last_from (Some (reference n)) ns

abbrev pub last_of : Children → Option NodeRef
last_of = last_from None
