-- The free slots from a number on are linked; the others are as they were.
use Rattle.ordered_tree.proofs.FreeLemmas.{Links}
use Rattle.ordered_tree.proofs.free_slots.link_free.Given as goal

abbrev pub decreases-loop-left : goal.decreases-loop-left
decreases-loop-left l = l.left

abbrev pub invariant-loop-left : goal.invariant-loop-left
invariant-loop-left l = Links l.fn.slots.items l.slots.items l.left l.free
