-- The blocks hold what they held.
use Rattle.std.proofs.Common.{◌≡◌}
use Rattle.shared_vector.proofs.sharing.share_same.Given as goal

abbrev pub invariant-loop-number : goal.invariant-loop-number
invariant-loop-number g l = l.blocks.items ≡ l.fn.blocks.items
