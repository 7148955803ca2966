-- The blocks up to the next one are there.
use Rattle.std.proofs.Common.{◌≡◌, take}
use Rattle.shared_vector.proofs.vector.shared.Given as goal

abbrev pub invariant-loop-block : goal.invariant-loop-block
invariant-loop-block g l = l.copy.items ≡ take l.block-index l.blocks.items
