-- The parent's place is shorter.
use Rattle.std.proofs.Common.{length}
use Rattle.path_nodes.specs.References.{element_of}
use Rattle.element_lines.proofs.leading.+push_steps.Given as goal

abbrev pub decreases-push_steps : goal.decreases-push_steps
decreases-push_steps l = length (element_of l.tree.now.root l.node).place
