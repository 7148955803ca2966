-- What an edit makes of a document (XQuery Update Facility 1.0, 2.4.1 to 2.4.3, elements and texts alone).
use Rattle.std.specs.Prelude.{ℕ, zero, suc, Bool, false, ◌&&◌, not, if◌then◌else◌, List, [], ◌∷◌, ◌++◌}
use Rattle.ft_base.specs.Lists.{is_empty, is_not_empty}
use Rattle.plain_tree.specs.Document.{Node, element, text, Nodes, no_nodes, node_then, is_text}
use Rattle.plain_tree.specs.declared.place.How.{How}
use Rattle.plain_tree.specs.declared.place.How.TheVariants as H

abbrev pub only : Node → Nodes
only n = node_then n no_nodes

-- nodes, and more after them
abbrev pub append : Nodes → Nodes → Nodes
append no_nodes more = more
append (node_then n ns) more = node_then n (append ns more)

-- ---- texts that come beside each other are joined

-- a text before nodes: with a text at their beginning it is one text, and an empty one is dropped
abbrev pub text_then : List ℕ → Nodes → Nodes
text_then bytes no_nodes = if is_empty bytes then no_nodes else only (text bytes)
text_then bytes (node_then (text more) ns) = node_then (text (bytes ++ more)) ns
text_then bytes (node_then (element name attrs kids) ns) =
    if is_empty bytes then node_then (element name attrs kids) ns else node_then (text bytes) (node_then (element name attrs kids) ns)

-- the nodes, where neighbouring texts are joined and empty ones dropped, and those below them likewise
abbrev mutual
  pub joined : Nodes → Nodes
  joined no_nodes = no_nodes
  joined (node_then n ns) = joined_then n (joined ns)

  pub joined_then : Node → Nodes → Nodes
  joined_then (element name attrs kids) ns = node_then (element name attrs (joined kids)) ns
  joined_then (text bytes) ns = text_then bytes ns

-- ---- the node at a place: child numbers from the root down, each counted from 1

abbrev pub with_children : (Nodes → Nodes) → Node → Node
with_children change (element name attrs kids) = element name attrs (change kids)
with_children change (text bytes) = text bytes

-- the nodes, where those that `change` makes of the one of this number stand in its place
abbrev pub at_child : (Node → Nodes) → ℕ → Nodes → Nodes
at_child change number no_nodes = no_nodes
at_child change zero (node_then n ns) = node_then n ns
at_child change (suc zero) (node_then n ns) = append (change n) ns
at_child change (suc (suc k)) (node_then n ns) = node_then n (at_child change (suc k) ns)

-- what stands where the node stood, where those that `change` makes of the one at the place below it stand in its place
abbrev pub at_place : (Node → Nodes) → List ℕ → Node → Nodes
at_place change [] n = change n
at_place change (k ∷ place) n = only (with_children (at_child (at_place change place) k) n)

abbrev pub holds_of_child : (Node → Bool) → ℕ → Nodes → Bool
holds_of_child test number no_nodes = false
holds_of_child test zero (node_then n ns) = false
holds_of_child test (suc zero) (node_then n ns) = test n
holds_of_child test (suc (suc k)) (node_then n ns) = holds_of_child test (suc k) ns

abbrev pub children : Node → Nodes
children (element name attrs kids) = kids
children (text bytes) = no_nodes

-- whether the place below a node names an element; the empty one names the node
abbrev pub names_element : List ℕ → Node → Bool
names_element [] n = not (is_text n)
names_element (k ∷ place) n = holds_of_child (names_element place) k (children n)

-- the same, where it doesn't name the root
abbrev pub names_inner : List ℕ → Node → Bool
names_inner place root = is_not_empty place && names_element place root

-- ---- edits

-- the nodes that stand where an element stood, once content was inserted into it or beside it
abbrev pub inserted : How → Nodes → Node → Nodes
inserted H.First content n = only (with_children (append content) n)
inserted H.Last content n = only (with_children (λ kids. append kids content) n)
inserted H.Before content n = append content (only n)
inserted H.After content n = node_then n content

-- nothing is inserted beside the root
abbrev pub may_insert : How → List ℕ → Node → Bool
may_insert H.First = names_element
may_insert H.Last = names_element
may_insert H.Before = names_inner
may_insert H.After = names_inner

-- the nodes that stand where the root stood, after an edit of the element at the place
abbrev pub insertion : How → Nodes → List ℕ → Node → Nodes
insertion how content place root = joined (at_place (inserted how content) place root)

abbrev pub replacement : Nodes → List ℕ → Node → Nodes
replacement content place root = joined (at_place (λ n. content) place root)

abbrev pub removal : List ℕ → Node → Nodes
removal = replacement no_nodes
