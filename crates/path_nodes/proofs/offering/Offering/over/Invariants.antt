-- What the contexts that are left offer comes before what those offer at which the walk stops.
use Rattle.std.proofs.Common.{◌≡◌, ◌++◌, All, flat_map, length}
use Rattle.path_nodes.specs.References.{IsElement, element_of}
use Rattle.path_nodes.specs.steps.Kept.{offered}
use Rattle.path_nodes.specs.steps.Offered.{IsStop, to_come}
use Rattle.path_nodes.proofs.offering.Offering.over.Given as goal

abbrev pub invariant-loop-node : goal.invariant-loop-node
invariant-loop-node l = record {
  offers : flat_map (λ r. offered l.deep (element_of l.tree.root r)) l.nodes.items ++ to_come l.tree.root l.deep l.left.items ≡ flat_map (λ r. offered l.deep (element_of l.tree.root r)) l.fn.contexts;
  nodes : All (IsElement l.tree.root) l.nodes.items;
  there : All (IsStop l.tree.root) l.left.items;
}

abbrev pub decreases-loop-node : goal.decreases-loop-node
decreases-loop-node l = length l.nodes.items
