-- The number and the lines so far.
use Rattle.std.proofs.Common.{◌≡◌, ◌≤◌, ◌++◌, drop, length}
use Rattle.std.specs.Prelude.{string_bytes}
use Rattle.std.specs.List.{flat_map}
use Rattle.reply_lines.specs.Replies.{ended_line, numbered_lines}
use Rattle.reply_lines.proofs.print.print_lines.Given as goal

abbrev pub invariant-loop-number : goal.invariant-loop-number
invariant-loop-number l = record {
  within : l.number ≤ length l.lines;
  text : string_bytes l.text ++ flat_map ended_line (drop l.number l.lines) ≡ numbered_lines l.fn.count l.lines;
}
