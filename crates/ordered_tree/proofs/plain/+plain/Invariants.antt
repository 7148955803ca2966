-- The nodes that are done, then those that are left, are all; each call is for fewer.
use Rattle.std.proofs.Common.{◌≡◌, ◌+◌, ◌*◌, ◌≤◌, ◌++◌, Some, map}
use Rattle.doc_grammar.specs.Limits.{nodes_count}
use Rattle.plain_tree.specs.View.{node}
use Rattle.ordered_tree.specs.Numbered.{plain_children}
use Rattle.ordered_tree.specs.Slots.{IsRow, row}
use Rattle.ordered_tree.proofs.RowLemmas.{plain_list}
use Rattle.ordered_tree.proofs.plain.+plain.Given as goal

abbrev pub decreases-tree_of : goal.decreases-tree_of
decreases-tree_of l = 2 * nodes_count (plain_children (row l.slots.now (Some l.here)))

abbrev pub decreases-kids_of : goal.decreases-kids_of
decreases-kids_of l = 2 * nodes_count (plain_children (row l.slots.now l.first)) + 1

abbrev pub decreases-kids_of-loop-link : goal.decreases-kids_of-loop-link
decreases-kids_of-loop-link l = nodes_count (plain_children (row l.slots l.link))

abbrev pub invariant-kids_of-loop-link : goal.invariant-kids_of-loop-link
invariant-kids_of-loop-link l = record {
  left : IsRow l.slots l.link;
  done : map node l.kids ++ plain_list (row l.slots l.link) ≡ plain_list (row l.slots l.fn.first);
  fewer : nodes_count (plain_children (row l.slots l.link)) ≤ nodes_count (plain_children (row l.slots l.fn.first));
}
