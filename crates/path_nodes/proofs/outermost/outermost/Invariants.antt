-- The outermost of the first contexts were kept.
use Rattle.path_nodes.proofs.OutermostLemmas.{Outer}
use Rattle.path_nodes.proofs.outermost.outermost.Given as goal

abbrev pub invariant-loop-context : goal.invariant-loop-context
invariant-loop-context l = Outer l.tree.root l.context-items l.context-index l.outer
