-- No byte so far is a control.
use Rattle.std.proofs.Common.{◌≡◌, drop}
use Rattle.std.specs.List.{list_any}
use Rattle.reply_lines.specs.Names.{is_control_byte}
use Rattle.session_text.proofs.words.has_control.Given as goal

abbrev pub invariant-loop-byte : goal.invariant-loop-byte
invariant-loop-byte l = list_any is_control_byte (drop l.byte-index l.bytes) ≡ list_any is_control_byte l.bytes
