-- How many words a node has, and how deep its elements stand in one another.
use Rattle.std.specs.Prelude.{ℕ, ◌+◌, max, length}
use Rattle.plain_tree.specs.Document.{Node, element, text, Nodes, no_nodes, node_then}
use Rattle.text_words.specs.Words.{words}

abbrev mutual
  -- the words of a node's texts
  pub word_count : Node → ℕ
  word_count (element name attrs kids) = word_counts kids
  word_count (text bytes) = length (words bytes)

  pub word_counts : Nodes → ℕ
  word_counts no_nodes = 0
  word_counts (node_then n ns) = word_count n + word_counts ns

abbrev mutual
  -- the number of elements in one another; an element alone counts 1, a text 0
  pub element_depth : Node → ℕ
  element_depth (element name attrs kids) = element_depths kids + 1
  element_depth (text bytes) = 0

  pub element_depths : Nodes → ℕ
  element_depths no_nodes = 0
  element_depths (node_then n ns) = max (element_depth n) (element_depths ns)
