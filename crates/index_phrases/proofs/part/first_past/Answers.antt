-- The half that the place in the middle tells is left.
use Rattle.std.proofs.Common.{◌≡◌, ◌∙◌, ◌<◌, ◌/◌, sym, arith, true, false}
use Rattle.index_phrases.proofs.EdgeLemmas.{searched_down, searched_up}
use Rattle.index_phrases.proofs.part.first_past.Goals as goal

pub loop-size-preserved-then-is_past : goal.loop-size-preserved-then-is_past
loop-size-preserved-then-is_past c =
    let less : c.loop-size.size / 2 < c.loop-size.size = omega (arith, c.loop-size-test.true) in
    searched_down c.args.edge c.args.bounds.now c.args.number c.args.target.now.breaks.breaks.now c.args.target.now.span _ _ c.loop-size.low c.loop-size.size _ c.loop-size.invariant less
    (sym c.is_past.ensures ∙ c.if-is_past.true)

pub loop-size-preserved : goal.loop-size-preserved
loop-size-preserved c =
    let less : c.loop-size.size / 2 < c.loop-size.size = omega (arith, c.loop-size-test.true) in
    searched_up c.args.edge c.args.bounds.now c.args.number c.args.target.now.breaks.breaks.now c.args.target.now.span _ _ c.loop-size.low c.loop-size.size _ c.loop-size.invariant less
    (sym c.is_past.ensures ∙ c.if-is_past.false)
