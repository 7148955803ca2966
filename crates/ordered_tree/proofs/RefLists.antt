-- Children as a list of nodes, and nodes by what their slots hold.
use Rattle.std.proofs.Common.{◌≡◌, ℕ, List, [], ◌∷◌, refl, ap}
use Rattle.ordered_tree.specs.Numbered.{Numbered, element_at, text_at, Children, no_children, child_then, reference, children}
use Rattle.ordered_tree.specs.RefView.{ref_nodes}
use Rattle.ordered_tree.specs.Slots.{held}
use Rattle.ordered_tree.specs.declared.slot.Held.TheVariants.{Element, Text}

abbrev pub node_list : Children → List Numbered
node_list no_children = []
node_list (child_then n ns) = n ∷ node_list ns

pub ref_nodes-node_list : (ns : Children) → ref_nodes (node_list ns) ≡ ns
ref_nodes-node_list no_children = refl
ref_nodes-node_list (child_then n ns) = ap (child_then n) (ref_nodes-node_list ns)

pub node-element : (n : Numbered) (name : List ℕ) (attrs : _) → held n ≡ Element name attrs → n ≡ element_at (reference n) name attrs (children n)
node-element (element_at r name' attrs' kids) name attrs h = cc
node-element (text_at r bytes) name attrs h = cc

pub node-text : (n : Numbered) (bytes : List ℕ) → held n ≡ Text bytes → n ≡ text_at (reference n) bytes
node-text (element_at r name attrs kids) bytes h = cc
node-text (text_at r bytes') bytes h = cc
