-- What is marked, and what is left, are all.
use Rattle.std.proofs.Common.{◌≡◌, ◌<◌, ◌||◌, drop, length}
use Rattle.ft_base.specs.declared.ids.NodeRef.{NodeRef}
use Rattle.tree_edits.specs.Edits.{any_names_element}
use Rattle.tree_edits.specs.steps.Marks.{is_marked}
use Rattle.tree_edits.proofs.RowsJoined.{row}
use Rattle.tree_edits.proofs.marks.+marking.Given as goal

abbrev pub invariant-mark_all_elements-loop-tree : goal.invariant-mark_all_elements-loop-tree
invariant-mark_all_elements-loop-tree l = record {
  size : length l.marks.items ≡ length l.fn.marks.items;
  marked : (r : NodeRef) → r.0 < length l.fn.marks.items → (is_marked l.marks.items r || any_names_element r (row (drop l.tree-index l.trees)))
      ≡ (any_names_element r (row l.trees) || is_marked l.fn.marks.items r);
}
