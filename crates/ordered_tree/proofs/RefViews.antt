-- The equations of `ref_node` and of what is counted at the two forms of a tree, as one set for the search.
use Rattle.std.proofs.Common.{◌≡◌, ℕ, List, map, ap, sym, ◌∙◌}
use Rattle.ft_base.specs.declared.ids.NodeRef.{NodeRef}
use Rattle.plain_tree.specs.declared.tree.Attr.{Attr}
use Rattle.ordered_tree.specs.Numbered.{element_at, text_at}
use Rattle.ordered_tree.specs.RefView.{ref_node, ref_nodes, ref_node-roll_element, ref_node-roll_text}
use Rattle.ordered_tree.specs.declared.ref_tree.RefTree.{RefTree}
use Rattle.ordered_tree.specs.declared.ref_tree.RefTree.TheVariants.{Element, Text, rolls-Element, rolls-Text}

pub ref_node_element : (r : NodeRef) (name : List ℕ) (attrs : List Attr) (kids : List RefTree)
    → ref_node (Element r name attrs kids) ≡ element_at r name attrs (ref_nodes (map ref_node kids))
ref_node_element r name attrs kids = ap ref_node (sym (rolls-Element r name attrs kids)) ∙ ref_node-roll_element r name attrs kids

pub ref_node_text : (r : NodeRef) (bytes : List ℕ) → ref_node (Text r bytes) ≡ text_at r bytes
ref_node_text r bytes = ap ref_node (sym (rolls-Text r bytes)) ∙ ref_node-roll_text r bytes

pub ruleset ref_views = (ref_node_element, ref_node_text)
