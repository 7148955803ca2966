-- The children before the link were read; those after it are fewer each time.
use Rattle.path_nodes.specs.References.{element_of}
use Rattle.path_nodes.proofs.ChildrenLemmas.{Reading, left}
use Rattle.path_nodes.proofs.children.element_children.Given as goal

abbrev pub invariant-loop-link : goal.invariant-loop-link
invariant-loop-link l = Reading l.tree.root (element_of l.tree.root l.fn.node) l.link l.children

abbrev pub decreases-loop-link : goal.decreases-loop-link
decreases-loop-link l = left l.tree.root l.fn.node l.link
