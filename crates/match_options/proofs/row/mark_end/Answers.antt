-- Each place tells whether it is the last one.
use Rattle.std.proofs.Common.{◌+◌, sym, ◌∙◌, ap, arith, chars}
use Rattle.std.specs.Prelude.{◌==◌}
use Rattle.match_options.proofs.RowLemmas.{row_end}
use Rattle.match_options.proofs.row.mark_end.Goals as goal

pub returns : goal.returns
returns c =
    row_end c.loop-place.row (chars c.args.text.now) (c.loop-place.invariant.size ∙ c.requires)
    (λ place h. c.loop-place.invariant.known place (omega (arith, h, c.loop-place-test.false)) ∙ ap (λ n. place + 1 == n) (sym c.loop-place.invariant.size))
