-- The place of a row of the run is the place of that number.
use Rattle.std.proofs.Common.{◌<◌, length, get_or, ap, ◌∙◌, arith}
use Rattle.index_document.specs.Terms.{places_of}
use Rattle.index_document.proofs.PlaceLemmas.{run-length, row-known, row-place, place-within}
use Rattle.index_document.proofs.term_places.TermPlaces.get.Goals as goal

pub row_at-row-requires-clause-fits : goal.row_at-row-requires-clause-fits
row_at-row-requires-clause-fits c =
    let inside = c.self.inside in
    omega (arith, c.requires, ap length c.self.view_is, run-length inside.leaves.now inside.rows.now inside.run.term inside.run.first inside.run.end c.self.invariant.0, c.self.invariant.0.order, c.self.invariant.0.fits)

pub row_at-row-requires-clause-there : goal.row_at-row-requires-clause-there
row_at-row-requires-clause-there c =
    let inside = c.self.inside in
    omega (arith, c.requires, ap length c.self.view_is, run-length inside.leaves.now inside.rows.now inside.run.term inside.run.first inside.run.end c.self.invariant.0, c.self.invariant.0.order, c.self.invariant.0.within)

pub place-requires-clause-leaf : goal.place-requires-clause-leaf
place-requires-clause-leaf c =
    let inside = c.self.inside in
    let there : c.args.number < length (places_of inside.run.term inside.leaves.now.leaves) = omega (arith, c.requires, ap length c.self.view_is) in
    row-known inside.leaves.now inside.rows.now inside.run.term inside.run.first inside.run.end c.self.invariant.0 c.args.number c.row_at-row.result there c.row_at-row.ensures

pub place-requires-clause-within : goal.place-requires-clause-within
place-requires-clause-within c =
    let inside = c.self.inside in
    let there : c.args.number < length (places_of inside.run.term inside.leaves.now.leaves) = omega (arith, c.requires, ap length c.self.view_is) in
    omega (
      arith,
      row-place inside.leaves.now inside.rows.now inside.run.term inside.run.first inside.run.end c.self.invariant.0 c.args.number c.row_at-row.result there c.row_at-row.ensures,
      place-within inside.run.term inside.leaves.now.leaves c.args.number there,
    )

pub returns : goal.returns
returns c =
    let inside = c.self.inside in
    let there : c.args.number < length (places_of inside.run.term inside.leaves.now.leaves) = omega (arith, c.requires, ap length c.self.view_is) in
    c.place.ensures ∙ row-place inside.leaves.now inside.rows.now inside.run.term inside.run.first inside.run.end c.self.invariant.0 c.args.number c.row_at-row.result there c.row_at-row.ensures
    ∙ ap (λ ps. get_or ps c.args.number 0) c.self.view_is
