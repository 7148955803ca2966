-- The words before the place are covered, so that those from it on decide.
use Rattle.std.proofs.Common.{◌≡◌, ◌-◌}
use Rattle.std.specs.List.{list_all, range_with_len}
use Rattle.window_distance.specs.steps.Covering.{is_covered}
use Rattle.window_distance.proofs.covering.are_covered.Given as goal

abbrev pub invariant-loop-place : goal.invariant-loop-place
invariant-loop-place l = list_all (is_covered l.hits) (range_with_len l.place (l.to - l.place)) ≡ list_all (is_covered l.hits) (range_with_len l.from (l.to - l.from))

abbrev pub decreases-loop-place : goal.decreases-loop-place
decreases-loop-place l = l.to - l.place
