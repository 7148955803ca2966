-- The blocks up to the next one are shared.
use Rattle.std.proofs.Common.{◌≡◌, take}
use Rattle.term_dict.proofs.given.shared.Given as goal

abbrev pub invariant-loop-block : goal.invariant-loop-block
invariant-loop-block l = l.copy.items ≡ take l.block-index l.blocks.items
