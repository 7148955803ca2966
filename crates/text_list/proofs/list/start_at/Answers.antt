-- A text starts where the one before it ends.
use Rattle.std.proofs.Common.{◌≡◌, ◌+◌, ◌-◌, suc, sym, ◌∙◌, ap, arith}
use Rattle.text_list.specs.Ends.{start_at}
use Rattle.text_list.proofs.EndsLemmas.{start-first, start-next}
use Rattle.text_list.proofs.list.start_at.Goals as goal

pub returns-then-number-eq0 : goal.returns-then-number-eq0
returns-then-number-eq0 c = sym (ap (start_at 0 c.args.ends.now.items) c.if-number-eq0.true ∙ start-first c.args.ends.now.items 0)

pub returns : goal.returns
returns c =
    let same : suc (c.args.number - 1) ≡ c.args.number = omega (arith, c.if-number-eq0.false) in
    c.index.ensures
    ∙ sym (start-next c.args.ends.now.items 0 (c.args.number - 1) c.index.result.now (omega (arith, same, c.requires)))
    ∙ ap (start_at 0 c.args.ends.now.items) same
