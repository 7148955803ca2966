-- What the children that are left offer comes before what is offered where the walk stops, and together they are lighter than the element.
use Rattle.std.proofs.Common.{◌≡◌, ◌<◌, ◌+◌, ◌++◌, All, flat_map, length}
use Rattle.std.specs.List.{sum_by}
use Rattle.path_meaning.specs.Elements.{element_children}
use Rattle.path_nodes.specs.References.{IsElement, element_of}
use Rattle.path_nodes.specs.steps.Kept.{offered_from}
use Rattle.path_nodes.specs.steps.Offered.{IsStop, to_come}
use Rattle.path_nodes.specs.steps.Weights.{weight, weights_at}
use Rattle.path_nodes.proofs.offering.Offering.enter.Given as goal

abbrev pub invariant-loop-child : goal.invariant-loop-child
invariant-loop-child l = record {
  offers : flat_map (λ r. offered_from l.deep (element_of l.tree.root r)) l.children.items ++ to_come l.tree.root l.deep l.self.left.items
      ≡ flat_map (offered_from l.deep) (element_children (element_of l.tree.root l.fn.node)) ++ to_come l.tree.root l.deep l.fn.self.left.items;
  children : All (IsElement l.tree.root) l.children.items;
  left : All (IsStop l.tree.root) l.self.left.items;
  fewer : sum_by (λ r. weight (element_of l.tree.root r).node) l.children.items + weights_at l.tree.root l.self.left.items
      < weight (element_of l.tree.root l.fn.node).node + weights_at l.tree.root l.fn.self.left.items;
  stretch : l.self.stretch ≡ l.fn.self.stretch;
}

abbrev pub decreases-loop-child : goal.decreases-loop-child
decreases-loop-child l = length l.children.items
