-- The item that is asked first, and then all.
use Rattle.std.proofs.Common.{arith, set}
use Rattle.place_merges.specs.Sources.{wanted}
use Rattle.place_merges.specs.steps.Searching.{items_stand, shown_all, shown_item}
use Rattle.place_merges.proofs.MoveLemmas.{moved_on, same_on, unmoved}
use Rattle.place_merges.proofs.VariantLemmas.{fit_jumps, fit_moved, fit_same, leads_before, nothing_asked}
use Rattle.place_merges.proofs.variant.lead_with_first.Goals as goal

pub returns-then-next-place-clause-leads : goal.returns-then-next-place-clause-leads
returns-then-next-place-clause-leads g c =
    let want = wanted g.H.Hits.stand in
    let shown = shown_item g.H.Hits.stand g.H.Hits.plain in
    let items = c.args.items.now.items in
    let jump = fit_jumps want shown items items c.args.place c.args.limit c.args.first c.args.steps.now c.args.steps.now c.lead_of_item-next.new.steps
    (nothing_asked want items c.args.place) (unmoved (shown_all shown items) c.args.steps.now) c.index_mut.result.now c.lead_of_item-next.new.item
    (omega (arith, c.if-first-count.false, c.len-count.ensures)) c.index_mut.ensures.value c.lead_of_item-next.result c.lead_of_item-next.ensures.leads c.lead_of_item-next.ensures.same
    c.lead_of_item-next.ensures.moved c.if-next-place.true in
    jump.leads

pub returns-then-next-place-clause-same : goal.returns-then-next-place-clause-same
returns-then-next-place-clause-same g c =
    let want = wanted g.H.Hits.stand in
    let shown = shown_item g.H.Hits.stand g.H.Hits.plain in
    let items = c.args.items.now.items in
    fit_same want shown items items c.args.place c.args.limit c.args.first c.args.steps.now c.args.steps.now c.lead_of_item-next.new.steps
    (nothing_asked want items c.args.place) (unmoved (shown_all shown items) c.args.steps.now) c.index_mut.result.now c.lead_of_item-next.new.item
    (omega (arith, c.if-first-count.false, c.len-count.ensures)) c.index_mut.ensures.value c.lead_of_item-next.result c.lead_of_item-next.ensures.leads c.lead_of_item-next.ensures.same
    c.lead_of_item-next.ensures.moved

pub returns-then-next-place-clause-moved : goal.returns-then-next-place-clause-moved
returns-then-next-place-clause-moved g c =
    let want = wanted g.H.Hits.stand in
    let shown = shown_item g.H.Hits.stand g.H.Hits.plain in
    let items = c.args.items.now.items in
    fit_moved want shown items items c.args.place c.args.limit c.args.first c.args.steps.now c.args.steps.now c.lead_of_item-next.new.steps
    (nothing_asked want items c.args.place) (unmoved (shown_all shown items) c.args.steps.now) c.index_mut.result.now c.lead_of_item-next.new.item
    (omega (arith, c.if-first-count.false, c.len-count.ensures)) c.index_mut.ensures.value c.lead_of_item-next.result c.lead_of_item-next.ensures.leads c.lead_of_item-next.ensures.same
    c.lead_of_item-next.ensures.moved

pub returns-clause-leads : goal.returns-clause-leads
returns-clause-leads g c =
    let want = wanted g.H.Hits.stand in
    let shown = shown_item g.H.Hits.stand g.H.Hits.plain in
    let items = c.args.items.now.items in
    let same = fit_same want shown items items c.args.place c.args.limit c.args.first c.args.steps.now c.args.steps.now c.lead_of_item-next.new.steps
    (nothing_asked want items c.args.place) (unmoved (shown_all shown items) c.args.steps.now) c.index_mut.result.now c.lead_of_item-next.new.item
    (omega (arith, c.if-first-count.false, c.len-count.ensures)) c.index_mut.ensures.value c.lead_of_item-next.result c.lead_of_item-next.ensures.leads c.lead_of_item-next.ensures.same
    c.lead_of_item-next.ensures.moved in
    leads_before (items_stand g.H.Hits.stand items) (items_stand g.H.Hits.stand (set items c.args.first c.lead_of_item-next.new.item)) c.args.place c.args.limit c.lead_of_items-2.result same c.lead_of_items-2.ensures.leads

pub returns-clause-same : goal.returns-clause-same
returns-clause-same g c =
    let want = wanted g.H.Hits.stand in
    let shown = shown_item g.H.Hits.stand g.H.Hits.plain in
    let items = c.args.items.now.items in
    let same = fit_same want shown items items c.args.place c.args.limit c.args.first c.args.steps.now c.args.steps.now c.lead_of_item-next.new.steps
    (nothing_asked want items c.args.place) (unmoved (shown_all shown items) c.args.steps.now) c.index_mut.result.now c.lead_of_item-next.new.item
    (omega (arith, c.if-first-count.false, c.len-count.ensures)) c.index_mut.ensures.value c.lead_of_item-next.result c.lead_of_item-next.ensures.leads c.lead_of_item-next.ensures.same
    c.lead_of_item-next.ensures.moved in
    same_on c.args.place (items_stand g.H.Hits.stand items) (items_stand g.H.Hits.stand (set items c.args.first c.lead_of_item-next.new.item)) (items_stand g.H.Hits.stand c.lead_of_items-2.new.items.items) same c.lead_of_items-2.ensures.same

pub returns-clause-moved : goal.returns-clause-moved
returns-clause-moved g c =
    let want = wanted g.H.Hits.stand in
    let shown = shown_item g.H.Hits.stand g.H.Hits.plain in
    let items = c.args.items.now.items in
    let moved = fit_moved want shown items items c.args.place c.args.limit c.args.first c.args.steps.now c.args.steps.now c.lead_of_item-next.new.steps
    (nothing_asked want items c.args.place) (unmoved (shown_all shown items) c.args.steps.now) c.index_mut.result.now c.lead_of_item-next.new.item
    (omega (arith, c.if-first-count.false, c.len-count.ensures)) c.index_mut.ensures.value c.lead_of_item-next.result c.lead_of_item-next.ensures.leads c.lead_of_item-next.ensures.same
    c.lead_of_item-next.ensures.moved in
    moved_on (shown_all shown items) (shown_all shown (set items c.args.first c.lead_of_item-next.new.item)) (shown_all shown c.lead_of_items-2.new.items.items) c.args.steps.now c.lead_of_item-next.new.steps c.lead_of_items-2.new.steps moved c.lead_of_items-2.ensures.moved
