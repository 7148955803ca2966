-- Each call is for fewer nodes, or stands nearer to the children. In the loop: what is done, then the children that are left, are all.
use Rattle.std.proofs.Common.{◌≡◌, ◌+◌, ◌*◌, ◌≤◌, ◌++◌, length, map, max}
use Rattle.std.specs.Vec.Iter.{into_iter_items, into_iter_len}
use Rattle.doc_grammar.specs.Limits.{node_count, nodes_count}
use Rattle.plain_tree.specs.Document.{nodes}
use Rattle.plain_tree.specs.View.{node}
use Rattle.tokenizer.specs.steps.StartsLeft.{words_seen}
use Rattle.ordered_tree.specs.Counts.{word_counts, element_depths}
use Rattle.ordered_tree.specs.Leaves.{texts_of}
use Rattle.ordered_tree.specs.Numbered.{last_from, last_of}
use Rattle.ordered_tree.specs.Numbering.{children_numbered}
use Rattle.ordered_tree.specs.Slots.{slot}
use Rattle.ordered_tree.specs.Stands.{child_stands, round_first}
use Rattle.ordered_tree.specs.steps.Gathering.{Gathers, parts_of}
use Rattle.ordered_tree.specs.declared.texts_read.TextsRead.{TextsRead}
use Rattle.ordered_tree.proofs.building.+adding.Given as goal

abbrev pub decreases-add_tree : goal.decreases-add_tree
decreases-add_tree l = 3 * node_count (node l.tree)

abbrev pub decreases-add_element : goal.decreases-add_element
decreases-add_element l = 3 * nodes_count (nodes (map node l.kids)) + 2

abbrev pub decreases-add_children : goal.decreases-add_children
decreases-add_children l = 3 * nodes_count (nodes (map node l.kids)) + 1

abbrev pub invariant-add_children-loop-kid : goal.invariant-add_children-loop-kid
invariant-add_children-loop-kid l = record {
  slots : l.slots.items ++ map slot (child_stands l.around (children_numbered (length l.slots.items) (nodes (map node (into_iter_items l.kid-iterator)))))
      ≡ l.fn.slots.items ++ map slot (child_stands (round_first l.before l.fn.parent) (children_numbered (length l.fn.slots.items) (nodes (map node l.fn.kids))));
  last : last_from l.around.previous (children_numbered (length l.slots.items) (nodes (map node (into_iter_items l.kid-iterator))))
      ≡ last_of (children_numbered (length l.fn.slots.items) (nodes (map node l.fn.kids)));
  words : l.around.before + word_counts (nodes (map node (into_iter_items l.kid-iterator))) ≡ l.before + word_counts (nodes (map node l.fn.kids));
  levels : max l.levels (element_depths (nodes (map node (into_iter_items l.kid-iterator)))) ≡ element_depths (nodes (map node l.fn.kids));
  left : l.left ≡ length (into_iter_items l.kid-iterator);
  ends : into_iter_len l.kid-iterator ≡ length (into_iter_items l.kid-iterator);
  count : length l.slots.items + nodes_count (nodes (map node (into_iter_items l.kid-iterator))) ≡ length l.fn.slots.items + nodes_count (nodes (map node l.fn.kids));
  fewer : nodes_count (nodes (map node (into_iter_items l.kid-iterator))) ≤ nodes_count (nodes (map node l.fn.kids));
  number : l.around.number ≤ length l.slots.items;
  before : l.around.before ≡ words_seen l.read.starts;
  abbreviations : l.read.abbreviations.now ≡ l.fn.read.abbreviations.now;
  most : l.read.most ≡ l.fn.read.most;
  gathers : (end : TextsRead) → Gathers l.read (texts_of (children_numbered (length l.slots.items) (nodes (map node (into_iter_items l.kid-iterator))))) (parts_of l.fn.read.abbreviations.now (nodes (map node (into_iter_items l.kid-iterator)))) end
      → Gathers l.fn.read (texts_of (children_numbered (length l.fn.slots.items) (nodes (map node l.fn.kids)))) (parts_of l.fn.read.abbreviations.now (nodes (map node l.fn.kids))) end;
}
