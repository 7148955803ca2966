-- What the nodes that are done make stands after the others, joined.
use Rattle.std.proofs.Common.{◌≡◌, true}
use Rattle.tree_edits.specs.Edits.{append, joined}
use Rattle.tree_edits.specs.steps.Editing.{all_edited}
use Rattle.tree_edits.proofs.JoiningLemmas.{are_joined_at}
use Rattle.tree_edits.proofs.RowsJoined.{row}
use Rattle.tree_edits.proofs.editing.+editing.Given as goal

abbrev pub invariant-edit_all-loop-kid : goal.invariant-edit_all-loop-kid
invariant-edit_all-loop-kid l = record {
  can_next : (goal.iterator-edit_all-loop-kid).can_next l.kid-iterator;
  is_finite : (goal.iterator-edit_all-loop-kid).is_finite l.kid-iterator;
  edited : are_joined_at (row l.initial.list.items) ≡ true
      → row l.list.items ≡ joined (append (row l.initial.list.items) (all_edited l.fn.edit (row l.yielded)));
}
