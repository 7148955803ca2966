-- What is left of the places up to the end begins with this one, if it is before the end.
use Rattle.std.proofs.Common.{sym, ◌∙◌}
use Rattle.index_cursors.proofs.CursorLemmas.{first-place}
use Rattle.index_cursors.proofs.search.Reached.place_before.Goals as goal

pub returns-clause-place : goal.returns-clause-place
returns-clause-place c = λ places is.
    first-place c.args.end c.args.self.number places c.in_ok-place.place (sym c.in_ok-place.was ∙ is) c.if-place-end.false
