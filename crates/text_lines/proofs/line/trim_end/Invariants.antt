-- Only blanks stand after the end.
use Rattle.std.proofs.Common.{◌≡◌, ◌≤◌, length, take}
use Rattle.text_lines.specs.Lines.{trimmed_end}
use Rattle.text_lines.proofs.line.trim_end.Given as goal

abbrev pub invariant-loop-end : goal.invariant-loop-end
invariant-loop-end l = record {
  within : l.end ≤ length l.text;
  passed : trimmed_end (take l.end l.text) ≡ trimmed_end l.text;
}

abbrev pub decreases-loop-end : goal.decreases-loop-end
decreases-loop-end l = l.end
