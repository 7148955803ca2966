-- What was passed leads to the nodes that are left; each call is for fewer nodes.
use Rattle.std.proofs.Common.{◌≡◌, ◌+◌, ◌*◌, ◌≤◌, ◌++◌, List, Some}
use Rattle.doc_grammar.specs.Limits.{nodes_count}
use Rattle.tokenizer.specs.Parts.{Part}
use Rattle.tokenizer.specs.steps.StartsLeft.{words_seen, sentences_in, paragraphs_in}
use Rattle.ordered_tree.specs.Counts.{word_counts}
use Rattle.ordered_tree.specs.Numbered.{plain_children}
use Rattle.ordered_tree.specs.Slots.{IsRow, row}
use Rattle.ordered_tree.specs.steps.Gathering.{parts_of}
use Rattle.ordered_tree.proofs.breaks.+breaks.Given as goal

abbrev pub decreases-pass_node : goal.decreases-pass_node
decreases-pass_node l = 2 * nodes_count (plain_children (row l.slots.now (Some l.here)))

abbrev pub decreases-pass_nodes : goal.decreases-pass_nodes
decreases-pass_nodes l = 2 * nodes_count (plain_children (row l.slots.now l.first)) + 1

abbrev pub decreases-pass_nodes-loop-link : goal.decreases-pass_nodes-loop-link
decreases-pass_nodes-loop-link l = nodes_count (plain_children (row l.slots l.link))

abbrev pub invariant-pass_nodes-loop-link : goal.invariant-pass_nodes-loop-link
invariant-pass_nodes-loop-link l = record {
  left : IsRow l.slots l.link;
  sentences : (rest : List Part) → sentences_in l.fn.starts (parts_of l.abbreviations (plain_children (row l.slots l.fn.first)) ++ rest) ≡ sentences_in l.starts (parts_of l.abbreviations (plain_children (row l.slots l.link)) ++ rest);
  paragraphs : (rest : List Part) → paragraphs_in l.fn.starts (parts_of l.abbreviations (plain_children (row l.slots l.fn.first)) ++ rest) ≡ paragraphs_in l.starts (parts_of l.abbreviations (plain_children (row l.slots l.link)) ++ rest);
  counted : words_seen l.starts + word_counts (plain_children (row l.slots l.link)) ≡ words_seen l.fn.starts + word_counts (plain_children (row l.slots l.fn.first));
  fewer : nodes_count (plain_children (row l.slots l.link)) ≤ nodes_count (plain_children (row l.slots l.fn.first));
}
