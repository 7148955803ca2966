-- The first elements of the list are marked.
use Rattle.std.proofs.Common.{◌≡◌, ◌||◌, map, take}
use Rattle.std.specs.List.{list_any}
use Rattle.ft_base.specs.declared.ids.NodeRef.{NodeRef}
use Rattle.path_meaning.specs.Elements.{is_same}
use Rattle.path_nodes.specs.steps.Marks.{is_marked}
use Rattle.path_nodes.specs.References.{IsElement, element_of}
use Rattle.path_nodes.proofs.marks.mark_all.Given as goal

abbrev pub invariant-loop-node : goal.invariant-loop-node
invariant-loop-node l = (r : NodeRef) → IsElement l.tree.root r
    → is_marked l.marks r ≡ (list_any (is_same (element_of l.tree.root r)) (map (element_of l.tree.root) (take l.node-index l.node-items)) || is_marked l.fn.marks r)
