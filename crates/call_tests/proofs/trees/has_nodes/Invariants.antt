-- Where there is a node, it is one of the tree's.
use Rattle.std.specs.Prelude.{Contains, IfSome}
use Rattle.ordered_tree.specs.Stands.{references}
use Rattle.call_tests.proofs.trees.has_nodes.Given as goal

abbrev pub invariant-loop-row : goal.invariant-loop-row
invariant-loop-row l = IfSome l.link (Contains (references l.tree.root))
