-- The places at the end were passed, and those before them stand as before.
use Rattle.std.proofs.Common.{◌≡◌, ◌-◌, ◌<◌, ◌≤◌, ℕ, length, drop}
use Rattle.match_options.specs.steps.Row.{at_place, nearest, reaches}
use Rattle.match_options.proofs.row.pass_more.Given as goal

abbrev pub invariant-loop-passed : goal.invariant-loop-passed
invariant-loop-passed l = record {
  size : length l.row ≡ length l.fn.row;
  few : l.far ≤ l.passed;
  far : l.far ≡ nearest (drop (length l.fn.row - l.passed) l.fn.row);
  known : (place : ℕ) → length l.fn.row - l.passed ≤ place → at_place l.row place ≡ reaches l.low l.high (drop place l.fn.row);
  left : (place : ℕ) → place < length l.fn.row - l.passed → at_place l.row place ≡ at_place l.fn.row place;
}
