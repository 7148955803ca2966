-- What is at or below the first children stands after the element.
use Rattle.std.proofs.Common.{◌≡◌, ◌∷◌, ◌++◌, All, flat_map, map, take}
use Rattle.path_nodes.specs.References.{IsElement, element_of}
use Rattle.path_nodes.specs.steps.Regions.{at_or_below}
use Rattle.path_nodes.specs.steps.Weights.{weight}
use Rattle.path_nodes.proofs.walks.+add_elements.Given as goal

abbrev pub decreases-add_elements : goal.decreases-add_elements
decreases-add_elements l = weight (element_of l.tree.now.root l.here).node

abbrev pub invariant-loop-child : goal.invariant-loop-child
invariant-loop-child l = record {
  done : map (element_of l.tree.root) l.found ≡ map (element_of l.tree.root) l.fn.found ++ (element_of l.tree.root l.fn.here ∷ flat_map at_or_below (map (element_of l.tree.root) (take l.child-index l.child-items)));
  there : All (IsElement l.tree.root) l.found;
}
