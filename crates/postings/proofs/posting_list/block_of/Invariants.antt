-- The blocks that are left get fewer.
use Rattle.std.proofs.Common.{◌-◌}
use Rattle.postings.proofs.posting_list.block_of.Given as goal

abbrev pub decreases-loop-middle : goal.decreases-loop-middle
decreases-loop-middle l = l.high - l.low
