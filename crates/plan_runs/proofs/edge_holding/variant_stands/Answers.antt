-- There is one place for so many words, or none.
use Rattle.std.proofs.Common.{◌∙◌, ℕ, Option, false, length, map, sym, ap}
use Rattle.std.specs.Option.{option_map_or}
use Rattle.std.proofs.lemmas.List.{length-map}
use Rattle.index_phrases.specs.Phrases.{wanted_at}
use Rattle.place_merges.specs.Places.{stands_at}
use Rattle.spot_merges.specs.Edges.{edge_place}
use Rattle.spot_merges.proofs.EdgeLemmas.{place_spot}
use Rattle.plan_runs.proofs.edge_holding.variant_stands.Goals as goal

pub words_stand-requires-clause-from : goal.words_stand-requires-clause-from
words_stand-requires-clause-from g c =
    let span = c.args.place.now.span in
    let words = c.args.words.now in
    (place_spot span c.args.edge (length words.items) c.in-Some.from (sym (c.in-Some.ensures ∙ ap (edge_place c.args.edge span) (c.len.ensures ∙ words.ok.0)))).first

pub words_stand-requires-clause-within : goal.words_stand-requires-clause-within
words_stand-requires-clause-within g c =
    let span = c.args.place.now.span in
    let words = c.args.words.now in
    (place_spot span c.args.edge (length words.items) c.in-Some.from (sym (c.in-Some.ensures ∙ ap (edge_place c.args.edge span) (c.len.ensures ∙ words.ok.0)))).last

pub returns-in-Some-clause-says : goal.returns-in-Some-clause-says
returns-in-Some-clause-says g c =
    let place = c.args.place.now in
    let words = c.args.words.now in
    let wanted = wanted_at place.version.now place.doc.0 place.span in
    c.words_stand.ensures.says
    ∙ ap (λ (o : Option ℕ). option_map_or (λ first. stands_at first (map wanted words.items)) o false)
    (c.in-Some.ensures ∙ ap (edge_place c.args.edge place.span) (c.len.ensures ∙ words.ok.0 ∙ sym (length-map words.items wanted)))

pub returns-in-None-clause-says : goal.returns-in-None-clause-says
returns-in-None-clause-says g c =
    let place = c.args.place.now in
    let words = c.args.words.now in
    let wanted = wanted_at place.version.now place.doc.0 place.span in
    ap (λ (o : Option ℕ). option_map_or (λ first. stands_at first (map wanted words.items)) o false)
    (c.in-None.ensures ∙ ap (edge_place c.args.edge place.span) (c.len.ensures ∙ words.ok.0 ∙ sym (length-map words.items wanted)))
