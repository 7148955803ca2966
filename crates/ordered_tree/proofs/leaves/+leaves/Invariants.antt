-- The leaves that are done, then those of the nodes that are left, are all; each call is for fewer nodes.
use Rattle.std.proofs.Common.{◌≡◌, ◌+◌, ◌*◌, ◌≤◌, ◌++◌, Some}
use Rattle.doc_grammar.specs.Limits.{nodes_count}
use Rattle.ordered_tree.specs.Leaves.{texts_of, leaves_after, last_leaf}
use Rattle.ordered_tree.specs.Numbered.{plain_children}
use Rattle.ordered_tree.specs.Slots.{IsRow, row}
use Rattle.ordered_tree.proofs.leaves.+leaves.Given as goal

abbrev pub decreases-add_leaves : goal.decreases-add_leaves
decreases-add_leaves l = 2 * nodes_count (plain_children (row l.slots.now (Some l.here)))

abbrev pub decreases-add_all_leaves : goal.decreases-add_all_leaves
decreases-add_all_leaves l = 2 * nodes_count (plain_children (row l.slots.now l.first)) + 1

abbrev pub decreases-add_all_leaves-loop-link : goal.decreases-add_all_leaves-loop-link
decreases-add_all_leaves-loop-link l = nodes_count (plain_children (row l.slots l.link))

abbrev pub invariant-add_all_leaves-loop-link : goal.invariant-add_all_leaves-loop-link
invariant-add_all_leaves-loop-link l = record {
  left : IsRow l.slots l.link;
  done : l.leaves ++ leaves_after l.before (texts_of (row l.slots l.link)) ≡ l.fn.leaves ++ leaves_after l.fn.last (texts_of (row l.slots l.fn.first));
  last : last_leaf l.before (texts_of (row l.slots l.link)) ≡ last_leaf l.fn.last (texts_of (row l.slots l.fn.first));
  fewer : nodes_count (plain_children (row l.slots l.link)) ≤ nodes_count (plain_children (row l.slots l.fn.first));
}
