-- The nodes that are done, then those that are left, are all; each call is for fewer.
use Rattle.std.proofs.Common.{◌≡◌, ◌+◌, ◌*◌, ◌≤◌, ◌++◌, Some, map}
use Rattle.doc_grammar.specs.Limits.{nodes_count}
use Rattle.ordered_tree.specs.Numbered.{plain_children}
use Rattle.ordered_tree.specs.RefView.{ref_node}
use Rattle.ordered_tree.specs.Slots.{IsRow, row}
use Rattle.ordered_tree.proofs.RefLists.{node_list}
use Rattle.ordered_tree.proofs.referenced.+referencing.Given as goal

abbrev pub decreases-referenced : goal.decreases-referenced
decreases-referenced l = 2 * nodes_count (plain_children (row l.slots.now (Some l.here)))

abbrev pub decreases-all_referenced : goal.decreases-all_referenced
decreases-all_referenced l = 2 * nodes_count (plain_children (row l.slots.now l.first)) + 1

abbrev pub decreases-all_referenced-loop-link : goal.decreases-all_referenced-loop-link
decreases-all_referenced-loop-link l = nodes_count (plain_children (row l.slots l.link))

abbrev pub invariant-all_referenced-loop-link : goal.invariant-all_referenced-loop-link
invariant-all_referenced-loop-link l = record {
  left : IsRow l.slots l.link;
  done : map ref_node l.kids ++ node_list (row l.slots l.link) ≡ node_list (row l.slots l.fn.first);
  fewer : nodes_count (plain_children (row l.slots l.link)) ≤ nodes_count (plain_children (row l.slots l.fn.first));
}
