-- As a window of one sentence or paragraph has it.
use Rattle.std.proofs.Common.{sym, ◌∙◌}
use Rattle.count_merges.proofs.LawLemmas.{scope_counted}
use Rattle.count_merges.proofs.fitting.fit_in_unit.Goals as goal

pub returns-clause-answer : goal.returns-clause-answer
returns-clause-answer g c =
    λ kind same asks.
    c.fit_in_window.ensures.answer kind same asks
    ∙ sym (scope_counted kind g.H.Hits.stand (g.U.Units.number c.args.units.now) (g.met.U.Units.rises c.args.units.now) c.args.span c.args.items.now.items asks)
