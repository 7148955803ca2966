-- Nothing is left after the last part.
use Rattle.std.proofs.Common.{◌++◌, [], sym, ap, ◌∙◌, arith}
use Rattle.std.proofs.lemmas.List.{drop_all}
use Rattle.match_options.specs.steps.PartsLeft.{parts_left}
use Rattle.match_options.proofs.PartLemmas.{nothing_left}
use Rattle.match_options.proofs.splitting.split.Goals as goal

pub returns : goal.returns
returns c =
    c.in_ok-end_part.ensures
    ∙ ap (λ ts. c.loop-letter.parts ++ ts) (ap (λ p. p) (sym (nothing_left c.deref.result.now)) ∙ ap (λ p. parts_left p []) c.deref.ensures.value)
    ∙ ap (λ d. c.loop-letter.parts ++ parts_left c.loop-letter.part.items d) (sym (drop_all c.loop-letter.letter-index c.args.letters.now (omega arith)))
    ∙ c.loop-letter.invariant
