-- Item by item.
use Rattle.std.proofs.Common.{arith}
use Rattle.count_merges.specs.steps.Passing.{holds_item, is_item_sound, shown_item}
use Rattle.count_merges.proofs.AgreeLemmas.{agreed_ends, agreed_goes_on, agreed_jumps}
use Rattle.count_merges.proofs.items.lead_of_items.Goals as goal

pub returns-then-next-last : goal.returns-then-next-last
returns-then-next-last g c =
    let unit = g.U.Units.number c.args.units.now in
    let window = c.args.window in
    let jump = agreed_jumps (holds_item g.H.Hits.stand unit window) (is_item_sound unit window) (shown_item g.H.Hits.stand g.H.Hits.plain) c.args.items.now.items c.loop-number.items.items
    c.args.last c.args.limit c.loop-number.number c.args.steps.now c.loop-number.steps c.lead_of_item-next.new.steps c.loop-number.invariant
    c.index_mut.result.now c.lead_of_item-next.new.item (omega (arith, c.loop-number-test.true, c.len-number-end.ensures, c.loop-number.invariant.long)) c.index_mut.ensures.value
    c.lead_of_item-next.result c.lead_of_item-next.ensures.leads c.lead_of_item-next.ensures.same c.lead_of_item-next.ensures.sound c.lead_of_item-next.ensures.moved c.if-next-last.true in
    record { leads = jump.leads; same = jump.same; sound = jump.all_sound; moved = jump.moved }

pub loop-number-preserved : goal.loop-number-preserved
loop-number-preserved g c =
    let unit = g.U.Units.number c.args.units.now in
    let window = c.args.window in
    agreed_goes_on (holds_item g.H.Hits.stand unit window) (is_item_sound unit window) (shown_item g.H.Hits.stand g.H.Hits.plain) c.args.items.now.items c.loop-number.items.items
    c.args.last c.args.limit c.loop-number.number c.args.steps.now c.loop-number.steps c.lead_of_item-next.new.steps c.loop-number.invariant
    c.index_mut.result.now c.lead_of_item-next.new.item (omega (arith, c.loop-number-test.true, c.len-number-end.ensures, c.loop-number.invariant.long)) c.index_mut.ensures.value
    c.lead_of_item-next.result c.lead_of_item-next.ensures.leads c.lead_of_item-next.ensures.same c.lead_of_item-next.ensures.sound c.lead_of_item-next.ensures.moved c.if-next-last.false

pub returns-clause-leads : goal.returns-clause-leads
returns-clause-leads g c =
    let unit = g.U.Units.number c.args.units.now in
    let window = c.args.window in
    agreed_ends (holds_item g.H.Hits.stand unit window) (is_item_sound unit window) (shown_item g.H.Hits.stand g.H.Hits.plain) c.args.items.now.items c.loop-number.items.items
    c.args.last c.args.limit c.loop-number.number c.args.steps.now c.loop-number.steps c.requires.below c.loop-number.invariant
    (omega (arith, c.loop-number-test.false, c.len-number-end.ensures, c.loop-number.invariant.long))
