-- How many nodes stand at and below the elements at which a walk has still to stop.
use Rattle.std.specs.Prelude.{ℕ, suc, ◌+◌, List, sum_by}
use Rattle.ordered_tree.specs.Numbered.{Numbered}
use Rattle.plain_tree.specs.Document.{Node, element, text, Nodes, no_nodes, node_then}
use Rattle.path_nodes.specs.References.{element_of}
use Rattle.path_nodes.specs.declared.offering.Stop.{Stop}

abbrev mutual
  pub weight : Node → ℕ
  weight (element name attributes kids) = suc (weights kids)
  weight (text bytes) = 1

  pub weights : Nodes → ℕ
  weights no_nodes = 0
  weights (node_then n ns) = weight n + weights ns

abbrev pub weight_at : Numbered → Stop → ℕ
weight_at root stop = weight (element_of root stop.node).node

abbrev pub weights_at : Numbered → List Stop → ℕ
weights_at root stops = sum_by (weight_at root) stops
