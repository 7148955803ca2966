-- A document is no higher than it has nodes, and what is said of how deep it is.
use Rattle.std.proofs.Common.{◌≡◌, ◌≤◌, refl, arith}
use Rattle.doc_grammar.specs.Limits.{height, heights, node_count, nodes_count}
use Rattle.ordered_tree.specs.Counts.{element_depth, element_depths}
use Rattle.plain_tree.specs.Document.{Node, element, text, Nodes, no_nodes, node_then}

mutual
  height_low : (n : Node) → height n ≤ node_count n
  height_low (element name attrs kids) = let e : heights kids ≤ nodes_count kids = heights_low kids in omega (arith, e)
  height_low (text bytes) = omega arith

  pub heights_low : (ns : Nodes) → heights ns ≤ nodes_count ns
  heights_low no_nodes = omega arith
  heights_low (node_then n ns) =
      let here : height n ≤ node_count n = height_low n in
      let rest : heights ns ≤ nodes_count ns = heights_low ns in
      omega (arith, here, rest)

mutual
  pub height_depth : (n : Node) → height n ≡ element_depth n
  height_depth (element name attrs kids) = let e : heights kids ≡ element_depths kids = heights_depths kids in omega (arith, e)
  height_depth (text bytes) = refl

  heights_depths : (ns : Nodes) → heights ns ≡ element_depths ns
  heights_depths no_nodes = refl
  heights_depths (node_then n ns) =
      let here : height n ≡ element_depth n = height_depth n in
      let rest : heights ns ≡ element_depths ns = heights_depths ns in
      omega (arith, here, rest)
