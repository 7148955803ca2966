-- The number so far, and the bytes that are left.
use Rattle.std.proofs.Common.{◌≡◌, ◌≤◌, ◌+◌, drop}
use Rattle.session_text.specs.steps.SizedReading.{number_past}
use Rattle.session_text.proofs.sized.number_past.Given as goal

abbrev pub invariant-loop-byte : goal.invariant-loop-byte
invariant-loop-byte l = record {
  value : number_past l.current (drop l.byte-index l.bytes) ≡ number_past l.number l.bytes;
  bound : l.current ≤ l.number + l.byte-index;
}
