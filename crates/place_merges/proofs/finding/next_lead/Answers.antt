-- Variant by variant.
use Rattle.std.proofs.Common.{arith}
use Rattle.place_merges.specs.steps.Searching.{shown_variant}
use Rattle.place_merges.specs.steps.Spotting.{variant_at}
use Rattle.place_merges.proofs.SpotSearch.{pass_ends, pass_goes_on}
use Rattle.place_merges.proofs.SpotWalk.{lead_is}
use Rattle.place_merges.proofs.finding.next_lead.Goals as goal

pub loop-number-preserved : goal.loop-number-preserved
loop-number-preserved g c =
    pass_goes_on (variant_at g.H.Hits.stand c.args.to) (shown_variant g.H.Hits.stand g.H.Hits.plain) c.args.variants.now.items c.loop-number.variants.items c.args.past c.args.to c.loop-number.first c.loop-number.number
    c.args.steps.now c.loop-number.steps c.lead_of_variant_after-next.new.steps c.loop-number.invariant c.index_mut.result.now c.lead_of_variant_after-next.new.variant
    (omega (arith, c.loop-number-test.true, c.len-number-end.ensures, c.loop-number.invariant.long)) c.index_mut.ensures.value
    c.lead_of_variant_after-next.result c.lead_of_variant_after-next.ensures.leads c.lead_of_variant_after-next.ensures.same c.lead_of_variant_after-next.ensures.moved
    c.sooner-first.result c.sooner-first.ensures

pub returns-clause-spots : goal.returns-clause-spots
returns-clause-spots g c =
    lead_is g.H.Hits.stand c.args.to c.args.variants.now.items c.loop-number.variants.items c.args.past c.loop-number.first
    (pass_ends (variant_at g.H.Hits.stand c.args.to) (shown_variant g.H.Hits.stand g.H.Hits.plain) c.args.variants.now.items c.loop-number.variants.items c.args.past c.args.to c.loop-number.first
    c.loop-number.number c.args.steps.now c.loop-number.steps c.loop-number.invariant (omega (arith, c.loop-number-test.false, c.len-number-end.ensures, c.loop-number.invariant.long)))
    c.loop-number.invariant.same
