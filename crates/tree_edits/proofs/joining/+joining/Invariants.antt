-- The nodes that were put to the end are joined.
use Rattle.std.proofs.Common.{◌≡◌, true}
use Rattle.tree_edits.specs.Edits.{append, joined}
use Rattle.tree_edits.proofs.JoiningLemmas.{are_joined_at}
use Rattle.tree_edits.proofs.RowsJoined.{row}
use Rattle.tree_edits.proofs.joining.+joining.Given as goal

abbrev pub invariant-join_all-loop-tree : goal.invariant-join_all-loop-tree
invariant-join_all-loop-tree l = record {
  can_next : (goal.iterator-join_all-loop-tree).can_next l.tree-iterator;
  is_finite : (goal.iterator-join_all-loop-tree).is_finite l.tree-iterator;
  joined : are_joined_at (row l.initial.list.items) ≡ true → row l.list.items ≡ joined (append (row l.initial.list.items) (row l.yielded));
}
