-- A variant stands at the place for its number of words, or the phrase doesn't stand at the edge.
use Rattle.std.proofs.Common.{ap, sym, ◌∙◌, map}
use Rattle.all_matches.proofs.ListTests.{list_any-map}
use Rattle.index_phrases.specs.Phrases.{wanted_at}
use Rattle.index_phrases.specs.steps.Aiming.{variant_words}
use Rattle.spot_merges.specs.Edges.{stands_at_edge}
use Rattle.spot_merges.proofs.EdgeLemmas.{edge_variants}
use Rattle.plan_runs.specs.steps.RunShapes.{at_edge}
use Rattle.plan_runs.proofs.placed_holding.holds_at_edge.Goals as goal

pub returns-clause-says : goal.returns-clause-says
returns-clause-says g c =
    let place = c.args.place.now in
    let edge = c.args.phrase.now.edge in
    let wanted = map (wanted_at place.version.now place.doc.0 place.span) in
    let variants = map variant_words c.args.phrase.now.variants.items in
    c.stands_at_edge.ensures.says
    ∙ sym (list_any-map (stands_at_edge edge place.span) wanted variants)
    ∙ edge_variants place.span edge (map wanted variants)

pub returns-clause-same : goal.returns-clause-same
returns-clause-same g c = ap (at_edge c.args.phrase.now.edge) c.stands_at_edge.ensures.same
