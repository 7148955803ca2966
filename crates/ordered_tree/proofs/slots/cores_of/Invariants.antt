-- The cores of the slots so far are there.
use Rattle.std.proofs.Common.{◌≡◌, map}
use Rattle.ordered_tree.specs.steps.Parts.{core_of}
use Rattle.ordered_tree.proofs.slots.cores_of.Given as goal

abbrev pub invariant-loop-slot : goal.invariant-loop-slot
invariant-loop-slot l = record {
  can_next : (goal.iterator-loop-slot).can_next l.slot-iterator;
  is_finite : (goal.iterator-loop-slot).is_finite l.slot-iterator;
  items : l.cores.items ≡ map core_of l.yielded;
}
