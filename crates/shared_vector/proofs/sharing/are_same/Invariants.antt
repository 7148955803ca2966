-- The items up to the next one are the same.
use Rattle.std.proofs.Common.{◌≡◌, take}
use Rattle.shared_vector.proofs.sharing.are_same.Given as goal

abbrev pub invariant-loop-at : goal.invariant-loop-at
invariant-loop-at g l = take l.at l.items ≡ take l.at l.others
