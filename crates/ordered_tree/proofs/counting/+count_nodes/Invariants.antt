-- The nodes counted so far and those of the children that are left are all.
use Rattle.std.proofs.Common.{◌≡◌, ◌+◌, map, drop}
use Rattle.doc_grammar.specs.Limits.{node_count, nodes_count}
use Rattle.plain_tree.specs.Document.{nodes}
use Rattle.plain_tree.specs.View.{node}
use Rattle.ordered_tree.proofs.counting.+count_nodes.Given as goal

abbrev pub decreases-count_nodes : goal.decreases-count_nodes
decreases-count_nodes l = node_count (node l.tree.now)

abbrev pub invariant-loop-kid : goal.invariant-loop-kid
invariant-loop-kid l =
    l.count + nodes_count (nodes (map node (drop l.kid-index l.kid-items))) ≡ 1 + nodes_count (nodes (map node l.kid-items))
