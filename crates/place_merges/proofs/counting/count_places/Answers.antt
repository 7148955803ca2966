-- Place by place.
use Rattle.place_merges.proofs.CountLemmas.{counts_one, jumps}
use Rattle.place_merges.proofs.counting.count_places.Goals as goal

pub loop-place-preserved-then-next-place : goal.loop-place-preserved-then-next-place
loop-place-preserved-then-next-place g c =
    counts_one g.H.Hits.stand g.H.Hits.plain c.args.variants.now.items c.loop-place.variants.items c.lead_of_variants-next.new.variants.items c.args.span.from c.args.span.to c.args.most c.loop-place.count c.loop-place.place
    c.args.steps.now c.loop-place.steps c.lead_of_variants-next.new.steps c.loop-place.invariant c.loop-place-test.true c.if-count-most.true c.lead_of_variants-next.result
    c.lead_of_variants-next.ensures.leads c.lead_of_variants-next.ensures.same c.lead_of_variants-next.ensures.moved c.if-next-place.true

pub loop-place-preserved : goal.loop-place-preserved
loop-place-preserved g c =
    jumps g.H.Hits.stand g.H.Hits.plain c.args.variants.now.items c.loop-place.variants.items c.lead_of_variants-next.new.variants.items c.args.span.from c.args.span.to c.args.most c.loop-place.count c.loop-place.place
    c.args.steps.now c.loop-place.steps c.lead_of_variants-next.new.steps c.loop-place.invariant c.loop-place-test.true c.if-count-most.true c.lead_of_variants-next.result
    c.lead_of_variants-next.ensures.leads c.lead_of_variants-next.ensures.same c.lead_of_variants-next.ensures.moved
