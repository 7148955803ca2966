-- The nodes and words that were counted and those that are left are all, and the deepest of those that were seen or are left is the deepest of all.
use Rattle.std.proofs.Common.{◌≡◌, ◌+◌, ◌*◌, ◌≤◌, ◌^◌, max, drop}
use Rattle.doc_grammar.specs.Limits.{heights, node_count, nodes_count}
use Rattle.ordered_tree.specs.Counts.{word_counts}
use Rattle.ordered_tree.specs.Numbered.{plain, plain_children}
use Rattle.ordered_tree.specs.RefView.{ref_node}
use Rattle.tree_edits.proofs.RowsJoined.{row}
use Rattle.tree_edits.proofs.measuring.+measuring.Given as goal

abbrev pub decreases-size_of : goal.decreases-size_of
decreases-size_of l = 2 * node_count (plain (ref_node l.tree.now))

abbrev pub decreases-size_of_all : goal.decreases-size_of_all
decreases-size_of_all l = 2 * nodes_count (plain_children (row l.trees.now)) + 1

abbrev pub invariant-size_of_all-loop-tree : goal.invariant-size_of_all-loop-tree
invariant-size_of_all-loop-tree l = record {
  nodes : l.nodes + nodes_count (plain_children (row (drop l.tree-index l.trees))) ≡ nodes_count (plain_children (row l.trees));
  levels : max (heights (plain_children (row (drop l.tree-index l.trees)))) l.levels ≡ heights (plain_children (row l.trees));
  words : l.words + word_counts (plain_children (row (drop l.tree-index l.trees))) ≡ word_counts (plain_children (row l.trees));
  few : l.words ≤ l.nodes * 2 ^ 64;
}
