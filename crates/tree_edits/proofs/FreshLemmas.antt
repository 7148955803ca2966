-- Content with references of its own: it is the content, and its references are the first of those that were free.
use Rattle.std.proofs.Common.{◌≡◌, suc, ◌+◌, ◌≤◌, List, [], ◌∷◌, ◌++◌, length, take, drop, refl, sym, ap, ap₂, ◌∙◌, arith, length-drop}
use Rattle.std.proofs.Math.Seq.{take-add}
use Rattle.doc_grammar.specs.Limits.{node_count, nodes_count}
use Rattle.ft_base.specs.declared.ids.NodeRef.{NodeRef}
use Rattle.ordered_tree.specs.Numbered.{plain, plain_children}
use Rattle.plain_tree.specs.Document.{Node, element, text, Nodes, no_nodes, node_then}
use Rattle.tree_edits.specs.Edits.{references_in, references_of}
use Rattle.tree_edits.specs.Fresh.{fresh, all_fresh}

mutual
  fresh-plain : (refs : List NodeRef) (n : Node) → plain (fresh refs n) ≡ n
  fresh-plain refs (element name attrs kids) = ap (element name attrs) (all_fresh-plain (drop 1 refs) kids)
  fresh-plain refs (text bytes) = refl

  pub all_fresh-plain : (refs : List NodeRef) (ns : Nodes) → plain_children (all_fresh refs ns) ≡ ns
  all_fresh-plain refs no_nodes = refl
  all_fresh-plain refs (node_then n ns) = ap₂ node_then (fresh-plain refs n) (all_fresh-plain (drop (node_count n) refs) ns)

mutual
  fresh-refs : (refs : List NodeRef) (n : Node) → node_count n ≤ length refs → references_in (fresh refs n) ≡ take (node_count n) refs
  fresh-refs [] (element name attrs kids) h = absurd (omega (arith, h))
  fresh-refs (r ∷ refs) (element name attrs kids) h =
      let one : suc (nodes_count kids) ≡ 1 + nodes_count kids = omega arith in
      ap (λ rs. r ∷ rs) (all_fresh-refs refs kids (omega (arith, h))) ∙ ap (λ k. take k (r ∷ refs)) one
  fresh-refs [] (text bytes) h = absurd (omega (arith, h))
  fresh-refs (r ∷ refs) (text bytes) h = refl

  pub all_fresh-refs : (refs : List NodeRef) (ns : Nodes) → nodes_count ns ≤ length refs → references_of (all_fresh refs ns) ≡ take (nodes_count ns) refs
  all_fresh-refs refs no_nodes h = refl
  all_fresh-refs refs (node_then n ns) h =
      ap₂ (λ a b. a ++ b) (fresh-refs refs n (omega (arith, h))) (all_fresh-refs (drop (node_count n) refs) ns (omega (arith, h, length-drop (node_count n) refs)))
      ∙ sym (take-add (node_count n) (nodes_count ns) refs)
