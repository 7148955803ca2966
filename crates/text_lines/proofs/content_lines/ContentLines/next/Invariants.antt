-- What was passed is skipped, so that all is still to come.
use Rattle.std.proofs.Common.{◌≡◌, ◌<◌, ◌+◌, ◌^◌, length}
use Rattle.text_lines.specs.Lines.{lines, content_lines}
use Rattle.text_lines.proofs.content_lines.ContentLines.next.Given as goal

abbrev pub invariant-loop-self : goal.invariant-loop-self
invariant-loop-self l = record {
  all : l.fn.self ≡ content_lines (l.self-inside.passed + 1) (lines l.self-inside.rest.now);
  room : l.self-inside.passed + length l.self-inside.rest.now < 2 ^ 64;
}

abbrev pub decreases-loop-self : goal.decreases-loop-self
decreases-loop-self l = length l.self-inside.rest.now
