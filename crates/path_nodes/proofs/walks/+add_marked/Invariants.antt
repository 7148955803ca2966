-- The marked elements at or below the first children stand after the others.
use Rattle.std.proofs.Common.{◌≡◌, ◌++◌, All, Bool, filter, flat_map, map, take}
use Rattle.ft_base.specs.declared.ids.NodeRef.{NodeRef}
use Rattle.path_meaning.specs.Elements.{Element}
use Rattle.path_nodes.specs.steps.Marks.{is_marked}
use Rattle.path_nodes.specs.References.{IsElement, element_of}
use Rattle.path_nodes.specs.steps.Regions.{at_or_below}
use Rattle.path_nodes.specs.steps.Ways.{LeadTo}
use Rattle.path_nodes.specs.steps.Weights.{weight}
use Rattle.path_nodes.proofs.walks.+add_marked.Given as goal

abbrev pub decreases-add_marked : goal.decreases-add_marked
decreases-add_marked l = weight (element_of l.tree.now.root l.here).node

abbrev pub invariant-loop-child : goal.invariant-loop-child
invariant-loop-child l = record {
  done : (test : Element → Bool) → ((r : NodeRef) → IsElement l.tree.root r → is_marked l.marks r ≡ test (element_of l.tree.root r)) → LeadTo l.tree.root l.ways test
      → map (element_of l.tree.root) l.found ≡ map (element_of l.tree.root) l.fn.found ++ filter test (flat_map at_or_below (map (element_of l.tree.root) (take l.child-index l.child-items)));
  there : All (IsElement l.tree.root) l.found;
}
