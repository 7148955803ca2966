-- The places so far tell whether they are the last one.
use Rattle.std.proofs.Common.{◌≡◌, ◌+◌, ◌<◌, ℕ, length}
use Rattle.std.specs.Prelude.{◌==◌}
use Rattle.match_options.specs.steps.Row.{at_place}
use Rattle.match_options.proofs.row.mark_end.Given as goal

abbrev pub invariant-loop-place : goal.invariant-loop-place
invariant-loop-place l = record {
  size : length l.row ≡ length l.fn.row;
  known : (place : ℕ) → place < l.place → at_place l.row place ≡ (place + 1 == length l.fn.row);
}
