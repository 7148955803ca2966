-- Only blanks stand before the place.
use Rattle.std.proofs.Common.{◌≡◌, ◌-◌, ◌≤◌, length, drop}
use Rattle.text_lines.specs.Lines.{trimmed_start}
use Rattle.text_lines.proofs.line.skip_blanks.Given as goal

abbrev pub invariant-loop-at : goal.invariant-loop-at
invariant-loop-at l = record {
  within : l.at ≤ length l.text;
  passed : trimmed_start (drop l.at l.text) ≡ trimmed_start l.text;
}

abbrev pub decreases-loop-at : goal.decreases-loop-at
decreases-loop-at l = length l.text - l.at
