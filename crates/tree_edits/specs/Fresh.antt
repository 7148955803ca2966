-- Content of which each node gets a reference, in document order, out of a list of those that no node has.
use Rattle.std.specs.Prelude.{List, drop, slice_index_or}
use Rattle.doc_grammar.specs.Limits.{node_count}
use Rattle.ft_base.specs.declared.ids.NodeRef.{NodeRef}
use Rattle.ordered_tree.specs.Numbered.{Numbered, element_at, text_at, Children, no_children, child_then}
use Rattle.plain_tree.specs.Document.{Node, element, text, Nodes, no_nodes, node_then}

abbrev pub first_ref : List NodeRef → NodeRef
first_ref refs = slice_index_or refs 0 (record { 0 = 0 })

abbrev mutual
  pub fresh : List NodeRef → Node → Numbered
  fresh refs (element name attrs kids) = element_at (first_ref refs) name attrs (all_fresh (drop 1 refs) kids)
  fresh refs (text bytes) = text_at (first_ref refs) bytes

  pub all_fresh : List NodeRef → Nodes → Children
  all_fresh refs no_nodes = no_children
  all_fresh refs (node_then n ns) = child_then (fresh refs n) (all_fresh (drop (node_count n) refs) ns)
