-- The variant stands nowhere before the place to which it leads.
use Rattle.std.proofs.Common.{arith}
use Rattle.place_merges.proofs.SpotSearch.{jump_at, same_at}
use Rattle.place_merges.proofs.finding.lead_of_variant_after.Goals as goal

pub returns-clause-leads : goal.returns-clause-leads
returns-clause-leads g c =
    jump_at g.H.Hits.stand c.args.to c.args.variant.now c.args.at c.first_place-place.result c.len-words.result (omega (arith, c.len-words.ensures)) c.first_place-place.ensures
    c.lead_of_variant-next.result c.lead_of_variant-next.ensures.leads c.if-next-place.false

pub returns-clause-same : goal.returns-clause-same
returns-clause-same g c =
    same_at g.H.Hits.stand c.args.to c.args.variant.now c.args.at c.first_place-place.result c.len-words.result (omega (arith, c.len-words.ensures)) c.first_place-place.ensures
    c.lead_of_variant-next.new.variant c.lead_of_variant-next.ensures.moved.lists c.lead_of_variant-next.ensures.same
