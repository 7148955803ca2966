-- The parent's place is shorter.
use Rattle.std.proofs.Common.{length}
use Rattle.path_nodes.specs.References.{element_of}
use Rattle.path_nodes.proofs.marks.+mark_way.Given as goal

abbrev pub decreases-mark_way : goal.decreases-mark_way
decreases-mark_way l = length (element_of l.tree.now.root l.node).place
