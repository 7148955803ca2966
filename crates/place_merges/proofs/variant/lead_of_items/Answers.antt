-- Item by item.
use Rattle.std.proofs.Common.{arith}
use Rattle.place_merges.specs.Sources.{wanted}
use Rattle.place_merges.specs.steps.Searching.{shown_item}
use Rattle.place_merges.proofs.VariantLemmas.{fit_goes_on, fit_jumps}
use Rattle.place_merges.proofs.variant.lead_of_items.Goals as goal

pub returns-then-next-place : goal.returns-then-next-place
returns-then-next-place g c =
    let jump = fit_jumps (wanted g.H.Hits.stand) (shown_item g.H.Hits.stand g.H.Hits.plain) c.args.items.now.items c.loop-number.items.items c.args.place c.args.limit c.loop-number.number
    c.args.steps.now c.loop-number.steps c.lead_of_item-next.new.steps c.loop-number.invariant.same c.loop-number.invariant.moved c.index_mut.result.now c.lead_of_item-next.new.item
    (omega (arith, c.loop-number-test.true, c.len-number-end.ensures, c.loop-number.invariant.long)) c.index_mut.ensures.value
    c.lead_of_item-next.result c.lead_of_item-next.ensures.leads c.lead_of_item-next.ensures.same c.lead_of_item-next.ensures.moved c.if-next-place.true in
    record { leads = jump.leads; same = jump.same; moved = jump.moved; length = omega (arith, c.loop-number.invariant.long) }

pub loop-number-preserved : goal.loop-number-preserved
loop-number-preserved g c =
    fit_goes_on (wanted g.H.Hits.stand) (shown_item g.H.Hits.stand g.H.Hits.plain) c.args.items.now.items c.loop-number.items.items c.args.place c.args.limit c.loop-number.number
    c.args.steps.now c.loop-number.steps c.lead_of_item-next.new.steps c.loop-number.invariant c.index_mut.result.now c.lead_of_item-next.new.item
    (omega (arith, c.loop-number-test.true, c.len-number-end.ensures, c.loop-number.invariant.long)) c.index_mut.ensures.value
    c.lead_of_item-next.result c.lead_of_item-next.ensures.leads c.lead_of_item-next.ensures.same c.lead_of_item-next.ensures.moved c.if-next-place.false
