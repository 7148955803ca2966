-- There are as many places as rows in the run.
use Rattle.std.proofs.Common.{◌≡◌, ◌-◌, length, ap, ◌∙◌, arith}
use Rattle.std.proofs.lemmas.Bool.{eqb-true, eq-eqb}
use Rattle.std.proofs.lemmas.List.{nil_from_length}
use Rattle.index_document.proofs.PlaceLemmas.{run-length}
use Rattle.index_document.proofs.term_places.TermPlaces.is_empty.Goals as goal

pub returns : goal.returns
returns c =
    let inside = c.self.inside in
    let count : inside.run.end - inside.run.first ≡ length c.args.self.now = run-length inside.leaves.now inside.rows.now inside.run.term inside.run.first inside.run.end c.self.invariant.0 ∙ ap length c.self.view_is in (
      λ same. nil_from_length c.args.self.now (omega (arith, count, eqb-true inside.run.end inside.run.first same)),
      λ none. eq-eqb inside.run.end inside.run.first (omega (arith, count, ap length none, c.self.invariant.0.order)),
    )
