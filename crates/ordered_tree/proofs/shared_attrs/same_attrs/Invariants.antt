-- The attributes up to the next one are the same.
use Rattle.std.proofs.Common.{◌≡◌, take}
use Rattle.ordered_tree.proofs.shared_attrs.same_attrs.Given as goal

abbrev pub invariant-loop-at : goal.invariant-loop-at
invariant-loop-at l = take l.at l.attrs ≡ take l.at l.others
