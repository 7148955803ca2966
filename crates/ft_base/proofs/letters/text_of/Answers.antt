-- One more letter was added.
use Rattle.std.proofs.Common.{◌++◌, sym, ap, ◌∙◌, arith}
use Rattle.std.specs.Prelude.{encode_utf8}
use Rattle.ft_base.proofs.LetterLemmas.{encodes_more}
use Rattle.ft_base.proofs.letters.text_of.Goals as goal

pub loop-letter-preserved : goal.loop-letter-preserved
loop-letter-preserved c =
    c.in_ok-push.ensures.bytes ∙ ap (λ bs. bs ++ encode_utf8 c.letter-item.result) c.loop-letter.invariant
    ∙ sym (encodes_more c.args.letters.now c.loop-letter.letter-index c.letter-item.result (omega arith) c.letter-item.is)
