-- The nodes that are done, then those that are left with the references that are left, are all.
use Rattle.std.proofs.Common.{◌≡◌, ◌+◌, ◌*◌, ◌≤◌, map, drop}
use Rattle.doc_grammar.specs.Limits.{node_count, nodes_count}
use Rattle.ordered_tree.specs.RefView.{ref_node, ref_nodes}
use Rattle.plain_tree.specs.Document.{nodes}
use Rattle.plain_tree.specs.View.{node}
use Rattle.tree_edits.specs.Edits.{append}
use Rattle.tree_edits.specs.Fresh.{all_fresh}
use Rattle.tree_edits.proofs.fresh.+refreshing.Given as goal

abbrev pub decreases-fresh_tree : goal.decreases-fresh_tree
decreases-fresh_tree l = 2 * node_count (node l.tree.now)

abbrev pub decreases-fresh_all : goal.decreases-fresh_all
decreases-fresh_all l = 2 * nodes_count (nodes (map node l.trees.now)) + 1

abbrev pub invariant-fresh_all-loop-tree : goal.invariant-fresh_all-loop-tree
invariant-fresh_all-loop-tree l = record {
  kids : append (ref_nodes (map ref_node l.kids)) (all_fresh (drop l.next l.refs) (nodes (map node (drop l.tree-index l.trees))))
      ≡ all_fresh (drop l.fn.next l.refs) (nodes (map node l.trees));
  next : l.next + nodes_count (nodes (map node (drop l.tree-index l.trees))) ≡ l.fn.next + nodes_count (nodes (map node l.trees));
  fewer : nodes_count (nodes (map node (drop l.tree-index l.trees))) ≤ nodes_count (nodes (map node l.trees));
}
