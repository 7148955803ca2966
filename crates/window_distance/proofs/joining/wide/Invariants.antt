-- What is left makes of the first hits what all make.
use Rattle.std.proofs.Common.{◌≡◌, drop, None}
use Rattle.std.specs.Prelude.{fold}
use Rattle.window_distance.specs.steps.Widening.{with_hit}
use Rattle.window_distance.proofs.joining.wide.Given as goal

abbrev pub invariant-loop-hit : goal.invariant-loop-hit
invariant-loop-hit l = fold with_hit l.joined (drop l.hit-index l.hits) ≡ fold with_hit None l.hits
