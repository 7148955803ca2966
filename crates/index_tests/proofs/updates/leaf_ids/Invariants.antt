-- The leaves so far.
use Rattle.std.proofs.Common.{◌≡◌, map}
use Rattle.index_tests.proofs.updates.leaf_ids.Given as goal

abbrev pub invariant-loop-leaf : goal.invariant-loop-leaf
invariant-loop-leaf l = l.ids ≡ map (λ leaf. leaf.leaf) l.yielded
