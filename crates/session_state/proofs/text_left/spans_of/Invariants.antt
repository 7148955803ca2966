-- The spans of the nodes so far.
use Rattle.std.proofs.Common.{◌≡◌, map, take}
use Rattle.session_state.specs.SelectionTests.{span_at}
use Rattle.session_state.proofs.text_left.spans_of.Given as goal

abbrev pub invariant-loop-node : goal.invariant-loop-node
invariant-loop-node l = l.spans ≡ map (span_at l.tree.root) (take l.node-index l.node-items)
