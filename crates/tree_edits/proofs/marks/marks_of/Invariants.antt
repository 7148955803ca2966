-- What is marked, and what is left, are all.
use Rattle.std.proofs.Common.{◌≡◌, ◌<◌, ◌||◌, drop, length}
use Rattle.ft_base.specs.declared.ids.NodeRef.{NodeRef}
use Rattle.tree_edits.specs.Edits.{is_among}
use Rattle.tree_edits.specs.steps.Marks.{is_marked}
use Rattle.tree_edits.proofs.marks.marks_of.Given as goal

abbrev pub invariant-loop-node : goal.invariant-loop-node
invariant-loop-node l = record {
  size : length l.marks.items ≡ l.size;
  marked : (r : NodeRef) → r.0 < l.size → (is_marked l.marks.items r || is_among (drop l.node-index l.node-items) r) ≡ is_among l.node-items r;
}
