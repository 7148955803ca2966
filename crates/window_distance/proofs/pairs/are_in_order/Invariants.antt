-- The hits before this one pass with every other one.
use Rattle.std.proofs.Common.{◌≡◌, drop}
use Rattle.ft_base.specs.Hits.{every_two}
use Rattle.all_matches.specs.Positions.{agree_in_order}
use Rattle.window_distance.proofs.pairs.are_in_order.Given as goal

abbrev pub invariant-loop-number : goal.invariant-loop-number
invariant-loop-number l = every_two agree_in_order l.hits ≡ every_two agree_in_order (drop l.number l.hits)
