-- What is left makes of the bounds that the first hits left what all make.
use Rattle.std.proofs.Common.{◌≡◌, drop}
use Rattle.std.specs.Prelude.{fold}
use Rattle.ft_operators.specs.Bounds.{all_numbers}
use Rattle.ft_operators.specs.Course.{round_words}
use Rattle.ft_operators.proofs.narrowing.round_each.Given as goal

abbrev pub invariant-loop-hit : goal.invariant-loop-hit
invariant-loop-hit l = fold (round_words l.words) l.bounds (drop l.hit-index l.hits) ≡ fold (round_words l.words) all_numbers l.hits
