-- All slots so far are free.
use Rattle.std.proofs.Common.{◌≡◌, ◌-◌, ◌≤◌, length, replicate}
use Rattle.ordered_tree.specs.Slots.{no_slot}
use Rattle.ordered_tree.proofs.free_slots.free_slots.Given as goal

abbrev pub decreases-loop-slots : goal.decreases-loop-slots
decreases-loop-slots l = l.count - length l.slots.items

abbrev pub invariant-loop-slots : goal.invariant-loop-slots
invariant-loop-slots l = record {
  items : l.slots.items ≡ replicate (length l.slots.items) no_slot;
  few : length l.slots.items ≤ l.count;
}
