-- What is left makes of the bounds that the first hits left what all make.
use Rattle.std.proofs.Common.{◌≡◌, drop}
use Rattle.std.specs.Prelude.{fold}
use Rattle.ft_operators.specs.Bounds.{round_hit}
use Rattle.ft_operators.proofs.narrowing.round_hits.Given as goal

abbrev pub invariant-loop-hit : goal.invariant-loop-hit
invariant-loop-hit l = fold (round_hit l.reach) l.bounds (drop l.hit-index l.hits) ≡ fold (round_hit l.reach) l.fn.bounds l.hits
