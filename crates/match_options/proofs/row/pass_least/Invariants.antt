-- The places so far were moved, and those after them stand as before.
use Rattle.std.proofs.Common.{◌≡◌, ◌+◌, ◌<◌, ◌≤◌, ℕ, length}
use Rattle.match_options.specs.steps.Row.{at_place}
use Rattle.match_options.proofs.row.pass_least.Given as goal

abbrev pub invariant-loop-place : goal.invariant-loop-place
invariant-loop-place l = record {
  size : length l.row ≡ length l.fn.row;
  moved : (place : ℕ) → place < l.place → at_place l.row place ≡ at_place l.fn.row (place + l.low);
  left : (place : ℕ) → l.place ≤ place → at_place l.row place ≡ at_place l.fn.row place;
}
