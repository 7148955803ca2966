-- The first of the others stand after.
use Rattle.std.proofs.Common.{◌≡◌, ◌++◌, take}
use Rattle.path_nodes.proofs.kept.append.Given as goal

abbrev pub invariant-loop-node : goal.invariant-loop-node
invariant-loop-node l = l.nodes ≡ l.fn.nodes ++ take l.node-index l.node-items
