-- The hits before this one pass with every other one.
use Rattle.std.proofs.Common.{◌≡◌, drop}
use Rattle.ft_base.specs.Hits.{every_two}
use Rattle.all_matches.specs.Positions.{are_apart}
use Rattle.window_distance.proofs.pairs.every_two_are_apart.Given as goal

abbrev pub invariant-loop-number : goal.invariant-loop-number
invariant-loop-number l = every_two (are_apart l.unit) l.hits ≡ every_two (are_apart l.unit) (drop l.number l.hits)
