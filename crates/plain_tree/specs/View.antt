-- A tree of the program as the node that it stands for, without where it lies in memory.
use Rattle.std.specs.Prelude.{◌≡◌, ℕ, List, [], ◌∷◌, map, refl}
use Rattle.std.specs.Coded.{Coded, code_by}
use Rattle.std.proofs.Common.{ap, ◌∙◌}
use Rattle.plain_tree.specs.Document.{Node, element, text, Nodes, no_nodes, node_then, nodes}
use Rattle.plain_tree.specs.declared.tree.Attr.{Attr}
use Rattle.plain_tree.specs.declared.tree.Tree.{Tree}
use Rattle.plain_tree.specs.declared.tree.Tree.TheOpen.{Tree-F}
use Rattle.plain_tree.specs.declared.tree.Tree.TheViews.{roll-Tree}
use Rattle.plain_tree.specs.declared.tree.Tree.TheFolds.{fold-Tree, fold-roll-Tree}
use Rattle.plain_tree.specs.contracts.tree.Tree.{the_row}

-- one layer, with the node of each child in its place
abbrev pub layer : Tree-F Node → Node
layer (Tree-F.Elem name attrs kids) = element name attrs (nodes kids)
layer (Tree-F.Text bytes) = text bytes

unfoldable pub node : Tree → Node
node = fold-Tree Node layer

-- its equations, at a tree made of one layer
pub node-roll_elem : (name : List ℕ) (attrs : List Attr) (kids : List Tree)
    → node (roll-Tree (Tree-F.Elem name attrs kids)) ≡ element name attrs (nodes (map node kids))
unfolding node
node-roll_elem name attrs kids = fold-roll-Tree Node layer (Tree-F.Elem name attrs kids)

pub node-roll_text : (bytes : List ℕ) → node (roll-Tree (Tree-F.Text bytes)) ≡ text bytes
unfolding node
node-roll_text bytes = fold-roll-Tree Node layer (Tree-F.Text bytes)

-- a tree that stands for a node
abbrev mutual
  pub tree_of : Node → Tree
  tree_of (element name attrs kids) = roll-Tree (Tree-F.Elem name attrs (trees_of kids))
  tree_of (text bytes) = roll-Tree (Tree-F.Text bytes)

  pub trees_of : Nodes → List Tree
  trees_of no_nodes = []
  trees_of (node_then n ns) = tree_of n ∷ trees_of ns

mutual
  pub node-tree_of : (n : Node) → node (tree_of n) ≡ n
  node-tree_of (element name attrs kids) = node-roll_elem name attrs (trees_of kids) ∙ ap (element name attrs) (nodes-trees_of kids)
  node-tree_of (text bytes) = node-roll_text bytes

  pub nodes-trees_of : (ns : Nodes) → nodes (map node (trees_of ns)) ≡ ns
  nodes-trees_of no_nodes = refl
  nodes-trees_of (node_then n ns) = ap (λ m. node_then m (nodes (map node (trees_of ns)))) (node-tree_of n) ∙ ap (node_then n) (nodes-trees_of ns)

-- how proofs tell nodes apart: by trees that stand for them
abbrev pub node_code : Coded Node
node_code = code_by Tree the_row.coded tree_of node node-tree_of
