-- What is at or below the first ones was found.
use Rattle.std.proofs.Common.{◌≡◌, All, flat_map, map, take}
use Rattle.path_nodes.specs.References.{IsElement, element_of}
use Rattle.path_nodes.specs.steps.Regions.{at_or_below}
use Rattle.path_nodes.proofs.walks.with_descendants.Given as goal

abbrev pub invariant-loop-context : goal.invariant-loop-context
invariant-loop-context l = record {
  done : map (element_of l.tree.root) l.found ≡ flat_map at_or_below (map (element_of l.tree.root) (take l.context-index l.context-items));
  there : All (IsElement l.tree.root) l.found;
}
