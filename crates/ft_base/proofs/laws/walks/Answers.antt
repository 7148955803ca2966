-- The three laws of a walk.
use Rattle.ft_base.proofs.WalkLemmas.{walk_start, walk_further, walk_end}
use Rattle.ft_base.proofs.laws.walks.Goals as goal

pub returns : goal.returns
returns c = record { start = walk_start; further = walk_further; end = walk_end }
