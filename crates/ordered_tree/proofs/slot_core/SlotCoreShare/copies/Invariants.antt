-- The cores up to the next one are there.
use Rattle.std.proofs.Common.{◌≡◌, take}
use Rattle.ordered_tree.proofs.slot_core.SlotCoreShare.copies.Given as goal

abbrev pub invariant-loop-core : goal.invariant-loop-core
invariant-loop-core l = l.copies.items ≡ take l.core-index l.items
