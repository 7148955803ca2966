-- A tree of the program whose nodes have references, as the document that it stands for, without where it lies in memory.
use Rattle.std.specs.Prelude.{◌≡◌, ℕ, List, [], ◌∷◌, map}
use Rattle.ft_base.specs.declared.ids.NodeRef.{NodeRef}
use Rattle.plain_tree.specs.declared.tree.Attr.{Attr}
use Rattle.ordered_tree.specs.Numbered.{Numbered, element_at, text_at, Children, no_children, child_then}
use Rattle.ordered_tree.specs.declared.ref_tree.RefTree.{RefTree}
use Rattle.ordered_tree.specs.declared.ref_tree.RefTree.TheOpen.{RefTree-F}
use Rattle.ordered_tree.specs.declared.ref_tree.RefTree.TheViews.{roll-RefTree}
use Rattle.ordered_tree.specs.declared.ref_tree.RefTree.TheFolds.{fold-RefTree, fold-roll-RefTree}

-- the nodes of a list, in order
abbrev pub ref_nodes : List Numbered → Children
ref_nodes [] = no_children
ref_nodes (n ∷ ns) = child_then n (ref_nodes ns)

-- one layer, with the node of each child in its place
abbrev pub layer : RefTree-F Numbered → Numbered
layer (RefTree-F.Element r name attrs kids) = element_at r name attrs (ref_nodes kids)
layer (RefTree-F.Text r bytes) = text_at r bytes

unfoldable pub ref_node : RefTree → Numbered
ref_node = fold-RefTree Numbered layer

-- its equations, at a tree made of one layer
pub ref_node-roll_element : (r : NodeRef) (name : List ℕ) (attrs : List Attr) (kids : List RefTree)
    → ref_node (roll-RefTree (RefTree-F.Element r name attrs kids)) ≡ element_at r name attrs (ref_nodes (map ref_node kids))
unfolding ref_node
ref_node-roll_element r name attrs kids = fold-roll-RefTree Numbered layer (RefTree-F.Element r name attrs kids)

pub ref_node-roll_text : (r : NodeRef) (bytes : List ℕ) → ref_node (roll-RefTree (RefTree-F.Text r bytes)) ≡ text_at r bytes
unfolding ref_node
ref_node-roll_text r bytes = fold-roll-RefTree Numbered layer (RefTree-F.Text r bytes)
