-- The leaves so far.
use Rattle.std.proofs.Common.{◌≡◌}
use Rattle.index_updates.specs.Follows.{word_leaves}
use Rattle.index_updates.proofs.adding.texts_of.Given as goal

abbrev pub invariant-loop-leaf : goal.invariant-loop-leaf
invariant-loop-leaf l = l.texts ≡ word_leaves l.yielded
