-- Where the hits or the others end, the one that goes on comes after.
use Rattle.std.proofs.Common.{◌≡◌, ◌∙◌, sym, length, arith}
use Rattle.std.specs.Prelude.{drop}
use Rattle.best_hits.specs.Least.{comes_before}
use Rattle.ft_operators.proofs.PlaceLemmas.{before_end, before_none}
use Rattle.ft_operators.proofs.comparing.come_before.Goals as goal

pub returns-then-number-others : goal.returns-then-number-others
returns-then-number-others c =
    let ends = c.if-number-others.true in
    before_none c.args.hits.now c.args.others.now c.loop-number.number c.loop-number-test.true (omega (arith, ends)) ∙ c.loop-number.invariant.rest

pub returns : goal.returns
returns c =
    let ends = c.loop-number.auto.number-end in
    let last : c.loop-number.number ≡ length c.args.hits.now = omega (arith, ends, c.loop-number-test.false) in
    before_end c.args.hits.now c.args.others.now (omega (arith, last, c.loop-number.invariant.within))
    ∙ (λ i. comes_before (drop (sym last i) c.args.hits.now) (drop (sym last i) c.args.others.now))
    ∙ c.loop-number.invariant.rest
