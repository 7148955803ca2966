-- The references so far, then those that come, are all.
use Rattle.std.proofs.Common.{◌≡◌, ◌+◌, ◌-◌, ◌≤◌, ◌++◌, length}
use Rattle.ordered_tree.specs.steps.FreeSlots.{Leads, spare}
use Rattle.ordered_tree.proofs.free_slots.spare_refs.Given as goal

abbrev pub decreases-loop-link : goal.decreases-loop-link
decreases-loop-link l = l.count - length l.refs

abbrev pub invariant-loop-link : goal.invariant-loop-link
invariant-loop-link l = record {
  done : l.refs ++ spare (l.count - length l.refs) l.slots l.link l.number ≡ spare l.count l.slots l.fn.free (length l.slots);
  leads : Leads l.slots l.link;
  few : length l.refs ≤ l.count;
  number : l.number ≤ length l.slots + length l.refs;
}
