-- Each call is for fewer nodes, or stands nearer to the children. In the loop: the children that are left lead from what is done to all.
use Rattle.std.proofs.Common.{◌≡◌, ◌+◌, ◌*◌, ◌≤◌, length, map, max, reverse, None}
use Rattle.doc_grammar.specs.Limits.{node_count, nodes_count}
use Rattle.ordered_tree.specs.Counts.{word_counts, element_depths}
use Rattle.ordered_tree.specs.Numbered.{last_from, last_of, plain, plain_children}
use Rattle.ordered_tree.specs.RefView.{ref_node, ref_nodes}
use Rattle.ordered_tree.specs.Stands.{round_first}
use Rattle.ordered_tree.specs.steps.Placing.{AllBelow, all_placed}
use Rattle.ordered_tree.proofs.placing.+placing.Given as goal

abbrev pub decreases-place_tree : goal.decreases-place_tree
decreases-place_tree l = 3 * node_count (plain (ref_node l.tree))

abbrev pub decreases-place_element : goal.decreases-place_element
decreases-place_element l = 3 * nodes_count (plain_children (ref_nodes (map ref_node l.kids))) + 2

abbrev pub decreases-place_children : goal.decreases-place_children
decreases-place_children l = 3 * nodes_count (plain_children (ref_nodes (map ref_node l.kids))) + 1

abbrev pub decreases-place_children-loop-kid : goal.decreases-place_children-loop-kid
decreases-place_children-loop-kid l = length l.left.items

abbrev pub invariant-place_children-loop-kid : goal.invariant-place_children-loop-kid
invariant-place_children-loop-kid l = record {
  slots : all_placed l.around (ref_nodes (map ref_node (reverse l.left.items))) l.slots.items
      ≡ all_placed (round_first l.before l.fn.parent) (ref_nodes (map ref_node l.fn.kids)) l.fn.slots.items;
  last : last_from l.around.previous (ref_nodes (map ref_node (reverse l.left.items))) ≡ last_of (ref_nodes (map ref_node l.fn.kids));
  words : l.around.before + word_counts (plain_children (ref_nodes (map ref_node (reverse l.left.items))))
      ≡ l.before + word_counts (plain_children (ref_nodes (map ref_node l.fn.kids)));
  levels : max l.levels (element_depths (plain_children (ref_nodes (map ref_node (reverse l.left.items)))))
      ≡ element_depths (plain_children (ref_nodes (map ref_node l.fn.kids)));
  nodes : l.nodes + nodes_count (plain_children (ref_nodes (map ref_node (reverse l.left.items))))
      ≡ nodes_count (plain_children (ref_nodes (map ref_node l.fn.kids)));
  below : AllBelow (length l.slots.items) (ref_nodes (map ref_node (reverse l.left.items)));
  number : l.around.number ≤ 1 + l.nodes;
  none : l.around.next ≡ None;
}
