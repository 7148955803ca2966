-- The first elements of the list are ways, and what leads to one is.
use Rattle.std.proofs.Common.{◌≡◌, true, All, take}
use Rattle.ft_base.specs.declared.ids.NodeRef.{NodeRef}
use Rattle.path_nodes.specs.steps.Marks.{is_marked}
use Rattle.path_nodes.specs.steps.Ways.{AreWays}
use Rattle.path_nodes.proofs.marks.mark_ways.Given as goal

abbrev pub invariant-loop-node : goal.invariant-loop-node
invariant-loop-node l = record {
  ways : AreWays l.tree.root l.ways;
  more : (r : NodeRef) → is_marked l.fn.ways r ≡ true → is_marked l.ways r ≡ true;
  there : All (λ r. is_marked l.ways r ≡ true) (take l.node-index l.node-items);
}
