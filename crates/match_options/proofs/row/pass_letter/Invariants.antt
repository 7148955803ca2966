-- The places so far were passed, those after them stand as before, and the rest of the text stands after them.
use Rattle.std.proofs.Common.{◌≡◌, ◌+◌, ◌<◌, ◌≤◌, ◌&&◌, ℕ, length, drop, chars, IsUtf8, get_or}
use Rattle.std.specs.Prelude.{◌==◌}
use Rattle.std.specs.Str.Iter.{chars_rest}
use Rattle.match_options.specs.steps.Row.{at_place}
use Rattle.match_options.proofs.row.pass_letter.Given as goal

abbrev pub invariant-loop-place : goal.invariant-loop-place
invariant-loop-place l = record {
  size : length l.row ≡ length l.fn.row;
  text : IsUtf8 (chars_rest l.rest);
  here : chars (chars_rest l.rest) ≡ drop l.place (chars l.text);
  known : (place : ℕ) → place < l.place → at_place l.row place ≡ ((l.letter == get_or (chars l.text) place l.letter) && at_place l.fn.row (place + 1));
  left : (place : ℕ) → l.place ≤ place → at_place l.row place ≡ at_place l.fn.row place;
}
