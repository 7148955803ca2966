-- The document whose nodes have references in document order.
use Rattle.std.specs.Prelude.{ℕ, suc, ◌+◌, Bool, Option, Some, None, if◌then◌else◌}
use Rattle.doc_grammar.specs.Limits.{node_count}
use Rattle.plain_tree.specs.Document.{Node, element, text, Nodes, no_nodes, node_then}
use Rattle.ft_base.specs.declared.ids.NodeRef.{NodeRef}
use Rattle.ordered_tree.specs.Numbered.{Numbered, element_at, text_at, Children, no_children, child_then}

unfoldable mutual
  pub numbered : ℕ → Node → Numbered
  numbered start (element name attrs kids) = element_at (record { 0 = start }) name attrs (children_numbered (suc start) kids)
  numbered start (text bytes) = text_at (record { 0 = start }) bytes

  pub children_numbered : ℕ → Nodes → Children
  children_numbered start no_nodes = no_children
  children_numbered start (node_then n ns) = child_then (numbered start n) (children_numbered (start + node_count n) ns)

-- the sibling after a node, where a number is that of the next node after it and all below it
abbrev pub next_sibling : Bool → ℕ → Option NodeRef
next_sibling is_last number = if is_last then None else Some (record { 0 = number })
