-- The heads so far, then those of the slots that are left, are all.
use Rattle.std.proofs.Common.{◌≡◌, ◌++◌, drop, map}
use Rattle.ordered_tree.specs.steps.Heads.{head_of}
use Rattle.ordered_tree.proofs.head.heads_of.Given as goal

abbrev pub invariant-loop-slot : goal.invariant-loop-slot
invariant-loop-slot l = l.heads.items ++ map head_of (drop l.slot-index l.slot-items) ≡ map head_of l.slot-items
