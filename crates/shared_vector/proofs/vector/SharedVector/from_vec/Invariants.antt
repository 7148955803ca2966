-- The items so far are in the vector.
use Rattle.std.proofs.Common.{◌≡◌}
use Rattle.shared_vector.proofs.vector.SharedVector.from_vec.Given as goal

abbrev pub invariant-loop-item : goal.invariant-loop-item
invariant-loop-item g l = record {
  can_next : (goal.iterator-loop-item g).can_next l.item-iterator;
  is_finite : (goal.iterator-loop-item g).is_finite l.item-iterator;
  items : l.vector ≡ l.yielded;
}
