-- The words before the place are covered, so that those from it on decide.
use Rattle.std.proofs.Common.{◌≡◌, ◌-◌}
use Rattle.std.specs.List.{list_any, range_with_len}
use Rattle.ft_operators.proofs.FreeLemmas.{is_free}
use Rattle.ft_operators.proofs.standing_out.some_is_free.Given as goal

abbrev pub invariant-loop-place : goal.invariant-loop-place
invariant-loop-place l = list_any (is_free l.hits) (range_with_len l.place (l.to - l.place)) ≡ list_any (is_free l.hits) (range_with_len l.from (l.to - l.from))

abbrev pub decreases-loop-place : goal.decreases-loop-place
decreases-loop-place l = l.to - l.place
