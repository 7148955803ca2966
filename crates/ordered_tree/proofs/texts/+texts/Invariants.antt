-- The texts that are done, then those of the nodes that are left, are all; each call is for fewer nodes.
use Rattle.std.proofs.Common.{◌≡◌, ◌+◌, ◌*◌, ◌≤◌, ◌++◌, Some, map}
use Rattle.doc_grammar.specs.Limits.{nodes_count}
use Rattle.ordered_tree.specs.Leaves.{text_of, texts_of}
use Rattle.ordered_tree.specs.Numbered.{plain_children}
use Rattle.ordered_tree.specs.Slots.{IsRow, row}
use Rattle.ordered_tree.proofs.texts.+texts.Given as goal

abbrev pub decreases-add_texts : goal.decreases-add_texts
decreases-add_texts l = 2 * nodes_count (plain_children (row l.slots.now (Some l.here)))

abbrev pub decreases-add_all_texts : goal.decreases-add_all_texts
decreases-add_all_texts l = 2 * nodes_count (plain_children (row l.slots.now l.first)) + 1

abbrev pub decreases-add_all_texts-loop-link : goal.decreases-add_all_texts-loop-link
decreases-add_all_texts-loop-link l = nodes_count (plain_children (row l.slots l.link))

abbrev pub invariant-add_all_texts-loop-link : goal.invariant-add_all_texts-loop-link
invariant-add_all_texts-loop-link l = record {
  left : IsRow l.slots l.link;
  done : map text_of l.list.items ++ texts_of (row l.slots l.link) ≡ map text_of l.fn.list.items ++ texts_of (row l.slots l.fn.first);
  fewer : nodes_count (plain_children (row l.slots l.link)) ≤ nodes_count (plain_children (row l.slots l.fn.first));
}
