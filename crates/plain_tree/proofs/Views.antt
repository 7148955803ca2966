-- The equations of `node` at the two forms of a tree, as one set for the search.
use Rattle.std.proofs.Common.{◌≡◌, ℕ, List, map, ap, sym, ◌∙◌}
use Rattle.plain_tree.specs.Document.{element, text, nodes}
use Rattle.plain_tree.specs.View.{node, node-roll_elem, node-roll_text}
use Rattle.plain_tree.specs.declared.tree.Attr.{Attr}
use Rattle.plain_tree.specs.declared.tree.Tree.{Tree}
use Rattle.plain_tree.specs.declared.tree.Tree.TheVariants.{Elem, Text, rolls-Elem, rolls-Text}

pub node_elem : (name : List ℕ) (attrs : List Attr) (kids : List Tree) → node (Elem name attrs kids) ≡ element name attrs (nodes (map node kids))
node_elem name attrs kids = ap node (sym (rolls-Elem name attrs kids)) ∙ node-roll_elem name attrs kids

pub node_text : (bytes : List ℕ) → node (Text bytes) ≡ text bytes
node_text bytes = ap node (sym (rolls-Text bytes)) ∙ node-roll_text bytes

pub ruleset views = (node_elem, node_text)
