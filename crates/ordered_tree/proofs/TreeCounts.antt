-- What is counted in a tree, at its two forms, as one set for the search.
use Rattle.std.proofs.Common.{◌≡◌, ◌+◌, ℕ, List, map, length, ap}
use Rattle.doc_grammar.specs.Limits.{node_count, nodes_count}
use Rattle.plain_tree.specs.Document.{nodes}
use Rattle.plain_tree.specs.View.{node}
use Rattle.plain_tree.specs.declared.tree.Attr.{Attr}
use Rattle.plain_tree.specs.declared.tree.Tree.{Tree}
use Rattle.plain_tree.specs.declared.tree.Tree.TheVariants.{Elem, Text}
use Rattle.plain_tree.proofs.Views.{node_elem, node_text}
use Rattle.text_words.specs.Words.{words}
use Rattle.ordered_tree.specs.Counts.{word_count, word_counts, element_depth, element_depths}

module _ (name : List ℕ) (attrs : List Attr) (kids : List Tree) where
  pub node_count_elem : node_count (node (Elem name attrs kids)) ≡ 1 + nodes_count (nodes (map node kids))
  node_count_elem = ap node_count (node_elem name attrs kids)

  pub word_count_elem : word_count (node (Elem name attrs kids)) ≡ word_counts (nodes (map node kids))
  word_count_elem = ap word_count (node_elem name attrs kids)

  pub depth_elem : element_depth (node (Elem name attrs kids)) ≡ element_depths (nodes (map node kids)) + 1
  depth_elem = ap element_depth (node_elem name attrs kids)

module _ (bytes : List ℕ) where
  pub node_count_text : node_count (node (Text bytes)) ≡ 1
  node_count_text = ap node_count (node_text bytes)

  pub word_count_text : word_count (node (Text bytes)) ≡ length (words bytes)
  word_count_text = ap word_count (node_text bytes)

  pub depth_text : element_depth (node (Text bytes)) ≡ 0
  depth_text = ap element_depth (node_text bytes)

pub ruleset tree_counts = (node_count_elem, word_count_elem, depth_elem, node_count_text, word_count_text, depth_text, node_elem, node_text)
