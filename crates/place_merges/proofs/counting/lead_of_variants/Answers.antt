-- Variant by variant.
use Rattle.std.proofs.Common.{arith}
use Rattle.place_merges.specs.steps.Searching.{variant_stands, shown_variant}
use Rattle.place_merges.proofs.UnionLemmas.{search_goes_on, search_finds, search_ends}
use Rattle.place_merges.proofs.counting.lead_of_variants.Goals as goal

pub returns-then-next-place : goal.returns-then-next-place
returns-then-next-place g c =
    let found = search_finds (variant_stands g.H.Hits.stand c.args.to) (shown_variant g.H.Hits.stand g.H.Hits.plain) c.args.variants.now.items c.loop-number.variants.items c.args.place c.args.to c.loop-number.first c.loop-number.number
    c.args.steps.now c.loop-number.steps c.lead_of_variant-next.new.steps c.loop-number.invariant c.index_mut.result.now c.lead_of_variant-next.new.variant
    (omega (arith, c.loop-number-test.true, c.len-number-end.ensures, c.loop-number.invariant.long)) c.index_mut.ensures.value
    c.lead_of_variant-next.result c.lead_of_variant-next.ensures.leads c.lead_of_variant-next.ensures.same c.lead_of_variant-next.ensures.moved c.if-next-place.true in
    record { leads = found.leads; same = found.same; moved = found.moved }

pub loop-number-preserved : goal.loop-number-preserved
loop-number-preserved g c =
    search_goes_on (variant_stands g.H.Hits.stand c.args.to) (shown_variant g.H.Hits.stand g.H.Hits.plain) c.args.variants.now.items c.loop-number.variants.items c.args.place c.args.to c.loop-number.first c.loop-number.number
    c.args.steps.now c.loop-number.steps c.lead_of_variant-next.new.steps c.loop-number.invariant c.index_mut.result.now c.lead_of_variant-next.new.variant
    (omega (arith, c.loop-number-test.true, c.len-number-end.ensures, c.loop-number.invariant.long)) c.index_mut.ensures.value
    c.lead_of_variant-next.result c.lead_of_variant-next.ensures.leads c.lead_of_variant-next.ensures.same c.lead_of_variant-next.ensures.moved c.min-first.result c.min-first.ensures c.if-next-place.false

pub returns-clause-leads : goal.returns-clause-leads
returns-clause-leads g c =
    search_ends (variant_stands g.H.Hits.stand c.args.to) (shown_variant g.H.Hits.stand g.H.Hits.plain) c.args.variants.now.items c.loop-number.variants.items c.args.place c.args.to c.loop-number.first c.loop-number.number
    c.args.steps.now c.loop-number.steps c.loop-number.invariant (omega (arith, c.loop-number-test.false, c.len-number-end.ensures, c.loop-number.invariant.long))
