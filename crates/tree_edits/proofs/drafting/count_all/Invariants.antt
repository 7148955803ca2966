-- The nodes counted so far and those of the trees that are left are all.
use Rattle.std.proofs.Common.{◌≡◌, ◌+◌, map, drop}
use Rattle.doc_grammar.specs.Limits.{nodes_count}
use Rattle.plain_tree.specs.Document.{nodes}
use Rattle.plain_tree.specs.View.{node}
use Rattle.tree_edits.proofs.drafting.count_all.Given as goal

abbrev pub invariant-loop-tree : goal.invariant-loop-tree
invariant-loop-tree l =
    l.count + nodes_count (nodes (map node (drop l.tree-index l.trees))) ≡ nodes_count (nodes (map node l.trees))
