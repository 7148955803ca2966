-- Source by source.
use Rattle.std.proofs.Common.{arith, refl}
use Rattle.place_merges.specs.Sources.{places_left}
use Rattle.place_merges.specs.steps.Searching.{has, shown_source}
use Rattle.place_merges.proofs.UnionLemmas.{search_finds, search_ends, settled_goes_on}
use Rattle.place_merges.proofs.source.lead_of_sources.Goals as goal

pub returns-then-next-place : goal.returns-then-next-place
returns-then-next-place g c =
    let found = search_finds (λ source. has (places_left (g.H.Hits.stand source))) (shown_source g.H.Hits.stand g.H.Hits.plain) c.args.sources.now.items c.loop-number.sources.items c.args.place c.args.limit c.loop-number.first c.loop-number.number
    c.args.steps.now c.loop-number.steps c.lead_of_source-next.new.steps c.loop-number.invariant.searched c.index_mut.result.now c.lead_of_source-next.new.source
    (omega (arith, c.loop-number-test.true, c.len-number-end.ensures, c.loop-number.invariant.searched.long)) c.index_mut.ensures.value
    c.lead_of_source-next.result c.lead_of_source-next.ensures.leads c.lead_of_source-next.ensures.same c.lead_of_source-next.ensures.moved c.if-next-place.true in
    record { leads = found.leads; found = λ less. found.leads.there refl; same = found.same; moved = found.moved }

pub loop-number-preserved : goal.loop-number-preserved
loop-number-preserved g c =
    settled_goes_on (λ source. has (places_left (g.H.Hits.stand source))) (shown_source g.H.Hits.stand g.H.Hits.plain) c.args.sources.now.items c.loop-number.sources.items c.args.place c.args.limit c.loop-number.first c.loop-number.number
    c.args.steps.now c.loop-number.steps c.lead_of_source-next.new.steps c.loop-number.invariant c.index_mut.result.now c.lead_of_source-next.new.source
    (omega (arith, c.loop-number-test.true, c.len-number-end.ensures, c.loop-number.invariant.searched.long)) c.index_mut.ensures.value
    c.lead_of_source-next.result c.lead_of_source-next.ensures.leads c.lead_of_source-next.ensures.found c.lead_of_source-next.ensures.same c.lead_of_source-next.ensures.moved c.min-first.result c.min-first.ensures c.if-next-place.false

pub returns-clause-leads : goal.returns-clause-leads
returns-clause-leads g c =
    search_ends (λ source. has (places_left (g.H.Hits.stand source))) (shown_source g.H.Hits.stand g.H.Hits.plain) c.args.sources.now.items c.loop-number.sources.items c.args.place c.args.limit c.loop-number.first c.loop-number.number
    c.args.steps.now c.loop-number.steps c.loop-number.invariant.searched (omega (arith, c.loop-number-test.false, c.len-number-end.ensures, c.loop-number.invariant.searched.long))
