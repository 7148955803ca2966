-- The places that are passed are those before the position and of the end of the span.
use Rattle.std.proofs.Common.{◌≡◌, ap, ◌∙◌, arith}
use Rattle.ft_base.specs.Hits.{hits_passed, sought}
use Rattle.index_cursors.specs.SpanHits.{cursor_place}
use Rattle.index_cursors.proofs.CursorLemmas.{passed-is, sought-within, sought-is}
use Rattle.index_cursors.proofs.cursor.CursorHits.seek.Goals as goal

pub invariant_of-self : goal.invariant_of-self
invariant_of-self g c =
    let i = c.self.inside in
    let walked = c.walk-reached.ensures.walked in (
      omega (arith, walked, c.self.invariant.0),
      sought-within i.breaks.breaks.now c.args.from i.to i.first i.at i.places c.self.invariant.0 c.self.invariant.1 c.walk-reached.result.number walked,
      c.place_before-self-inside.ensures.place i.places c.walk-reached.ensures.place,
      c.place_before-self-inside.ensures.few,
      c.self.invariant.4,
    )

pub returns-clause-moved : goal.returns-clause-moved
returns-clause-moved g c =
    let i = c.self.inside in
    sought-is i.breaks.breaks.now c.args.from i.to i.first i.at i.places c.self.invariant.0 c.self.invariant.1 c.walk-reached.result.number c.walk-reached.ensures.walked
    ∙ ap (sought c.args.from) c.self.view_is

pub returns-clause-counted : goal.returns-clause-counted
returns-clause-counted g c = λ plain.
    let i = c.self.inside in
    let passed = passed-is i.breaks.breaks.now c.args.from i.to i.first i.at i.places c.self.invariant.0 c.self.invariant.1 in
    let same : hits_passed c.args.from (cursor_place i.breaks.breaks.now i.to i.first i.at i.places) ≡ hits_passed c.args.from c.args.self.now = ap (hits_passed c.args.from) c.self.view_is in
    omega (arith, c.walk-reached.ensures.counted, passed, same)
