-- The nodes that were put to the end are joined.
use Rattle.std.proofs.Common.{◌≡◌}
use Rattle.plain_tree.specs.Edits.{append, joined}
use Rattle.plain_tree.proofs.TreesJoined.{row}
use Rattle.plain_tree.proofs.joining.+joining.Given as goal

abbrev pub invariant-join_all-loop-tree : goal.invariant-join_all-loop-tree
invariant-join_all-loop-tree l = record {
  can_next : (goal.iterator-join_all-loop-tree).can_next l.tree-iterator;
  is_finite : (goal.iterator-join_all-loop-tree).is_finite l.tree-iterator;
  joined : row l.list.items ≡ joined (append (row l.initial.list.items) (row l.yielded));
}
