-- One byte more is seen, and the bytes of a text say the same of the gap as its characters.
use Rattle.std.proofs.Common.{sym, ap, ◌∙◌, drop, ◌+◌, arith}
use Rattle.tokenizer.specs.steps.GapSteps.{after_characters}
use Rattle.tokenizer.proofs.GapLemmas.{after_characters-next, after_characters-done, after_characters-chars}
use Rattle.tokenizer.proofs.gap.Gap.pass_characters.Goals as goal

pub loop-byte-preserved : goal.loop-byte-preserved
loop-byte-preserved c =
    ap (λ known. after_characters known (drop (c.loop-byte.byte-index + 1) c.as_bytes-byte-items.result.now)) c.pass_byte.ensures
    ∙ sym (after_characters-next c.loop-byte.self c.as_bytes-byte-items.result.now c.loop-byte.byte-index (omega arith)) ∙ c.loop-byte.invariant

pub returns : goal.returns
returns c =
    sym (after_characters-done c.loop-byte.self c.as_bytes-byte-items.result.now c.loop-byte.byte-index (omega arith)) ∙ c.loop-byte.invariant
    ∙ after_characters-chars c.args.self.now c.args.text.now c.utf8.text
