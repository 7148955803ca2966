-- The parent's place is shorter.
use Rattle.std.proofs.Common.{length}
use Rattle.path_nodes.specs.References.{element_of}
use Rattle.path_nodes.proofs.outermost.+is_at_or_below.Given as goal

abbrev pub decreases-is_at_or_below : goal.decreases-is_at_or_below
decreases-is_at_or_below l = length (element_of l.tree.now.root l.node).place
