-- The sources of the item.
use Rattle.place_merges.proofs.VariantLemmas.{sources_lead, sources_same}
use Rattle.place_merges.proofs.variant.lead_of_item.Goals as goal

pub returns-in-Of-clause-leads : goal.returns-in-Of-clause-leads
returns-in-Of-clause-leads g c = sources_lead g.H.Hits.stand c.args.item.now c.in-Of.sources c.in-Of.is c.args.place c.args.limit c.lead_of_sources.result c.lead_of_sources.ensures.leads

pub returns-in-Of-clause-same : goal.returns-in-Of-clause-same
returns-in-Of-clause-same g c = sources_same g.H.Hits.stand c.args.item.now c.in-Of.sources c.lead_of_sources.new.sources c.in-Of.is c.args.place c.lead_of_sources.ensures.same
