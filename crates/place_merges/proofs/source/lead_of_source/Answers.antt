-- The first hit from the place on, or the limit where there is none.
use Rattle.std.proofs.Common.{min, ap, sym, ◌∙◌}
use Rattle.place_merges.proofs.SourceLemmas.{Told, known, none_told, source_same, leads_at_hit, leads_at_end, found_at_hit}
use Rattle.place_merges.proofs.source.lead_of_source.Goals as goal

pub returns-in-Some-clause-leads : goal.returns-in-Some-clause-leads
returns-in-Some-clause-leads g c =
    let t : Told (g.H.Hits.stand c.reach.new.source) c.in-Some.first = known (g.H.Hits.stand c.reach.new.source) c.in-Some.first c.in-Some.ensures.first in
    leads_at_hit c.args.place c.args.limit c.requires (g.H.Hits.stand c.args.source.now) (g.H.Hits.stand c.reach.new.source) c.reach.ensures.reached
    c.in-Some.ensures.sorted t.hit t.is c.min.result (c.min.ensures ∙ ap (λ n. min n c.args.limit) (sym t.from))

pub returns-in-Some-clause-found : goal.returns-in-Some-clause-found
returns-in-Some-clause-found g c =
    let t : Told (g.H.Hits.stand c.reach.new.source) c.in-Some.first = known (g.H.Hits.stand c.reach.new.source) c.in-Some.first c.in-Some.ensures.first in
    let is = c.min.ensures ∙ ap (λ n. min n c.args.limit) (sym t.from) in
    let leads = leads_at_hit c.args.place c.args.limit c.requires (g.H.Hits.stand c.args.source.now) (g.H.Hits.stand c.reach.new.source) c.reach.ensures.reached
    c.in-Some.ensures.sorted t.hit t.is c.min.result is in
    λ below. found_at_hit c.args.place c.args.limit (g.H.Hits.stand c.args.source.now) (g.H.Hits.stand c.reach.new.source) c.reach.ensures.reached t.hit t.is c.min.result is leads.from below

pub returns-in-Some-clause-same : goal.returns-in-Some-clause-same
returns-in-Some-clause-same g c = source_same c.args.place (g.H.Hits.stand c.args.source.now) (g.H.Hits.stand c.reach.new.source) c.reach.ensures.reached

pub returns-in-None-clause-leads : goal.returns-in-None-clause-leads
returns-in-None-clause-leads g c =
    leads_at_end c.args.place c.args.limit c.requires (g.H.Hits.stand c.args.source.now) (g.H.Hits.stand c.reach.new.source) c.reach.ensures.reached
    c.in-None.ensures.sorted (none_told (g.H.Hits.stand c.reach.new.source) c.in-None.ensures.first)

pub returns-in-None-clause-same : goal.returns-in-None-clause-same
returns-in-None-clause-same g c = source_same c.args.place (g.H.Hits.stand c.args.source.now) (g.H.Hits.stand c.reach.new.source) c.reach.ensures.reached
