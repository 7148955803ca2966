-- The bytes that are left bring the gap to where all of them do.
use Rattle.std.proofs.Common.{◌≡◌, drop}
use Rattle.tokenizer.specs.steps.GapSteps.{after_characters}
use Rattle.tokenizer.proofs.gap.Gap.pass_characters.Given as goal

abbrev pub invariant-loop-byte : goal.invariant-loop-byte
invariant-loop-byte l = after_characters l.self (drop l.byte-index l.byte-items) ≡ after_characters l.fn.self l.text
