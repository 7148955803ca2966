-- The node is one of the tree's.
use Rattle.std.specs.Prelude.{Contains}
use Rattle.ordered_tree.specs.Stands.{references}
use Rattle.call_tests.proofs.trees.following.Given as goal

abbrev pub invariant-loop-level : goal.invariant-loop-level
invariant-loop-level l = Contains (references l.tree.root) l.here
