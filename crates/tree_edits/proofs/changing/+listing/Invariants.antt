-- The texts so far and those that are left are all.
use Rattle.std.proofs.Common.{◌≡◌, ◌++◌, drop, map}
use Rattle.ordered_tree.specs.Leaves.{text_of, texts_of}
use Rattle.tree_edits.proofs.RowsJoined.{row}
use Rattle.tree_edits.proofs.changing.+listing.Given as goal

abbrev pub invariant-add_all_texts-loop-tree : goal.invariant-add_all_texts-loop-tree
invariant-add_all_texts-loop-tree l =
    map text_of l.list.items ++ texts_of (row (drop l.tree-index l.trees)) ≡ map text_of l.fn.list.items ++ texts_of (row l.trees)
