-- The children before the link have their numbers; those after it are fewer each time.
use Rattle.path_nodes.proofs.ChildrenLemmas.{left}
use Rattle.element_lines.proofs.NumberLemmas.{Numbering}
use Rattle.element_lines.proofs.numbers.number_children.Given as goal

abbrev pub invariant-loop-link : goal.invariant-loop-link
invariant-loop-link l = Numbering l.tree.root l.fn.parent l.link l.counts l.numbers.items

abbrev pub decreases-loop-link : goal.decreases-loop-link
decreases-loop-link l = left l.tree.root l.fn.parent l.link
