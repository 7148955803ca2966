-- The cursors of a word have the places of its terms.
use Rattle.std.proofs.Common.{◌≡◌, ap, subst, sym, ◌∙◌, true, List, map}
use Rattle.std.specs.List.{All}
use Rattle.std.proofs.lemmas.Simd.{map-map}
use Rattle.index_meaning.specs.Documents.{has_document}
use Rattle.index_versions.specs.Terms.{VersionTerm, aimed_at}
use Rattle.place_merges.specs.Places.{one_of}
use Rattle.place_merges.specs.Sources.{places_left}
use Rattle.plan_runs.specs.steps.AskedPlaces.{aimed, wanted_at}
use Rattle.plan_runs.specs.steps.ChosenTerms.{numbers_of}
use Rattle.index_phrases.specs.steps.Aiming.{AreThere}
use Rattle.plan_runs.proofs.AimLemmas.{aimed_are, all_there}
use Rattle.plan_runs.proofs.aiming.aim_item.Goals as goal

pub aim-requires-clause-there : goal.aim-requires-clause-there
aim-requires-clause-there g c =
    let place = c.args.place.now in
    subst (λ (sources : List VersionTerm). All (λ source. has_document place.doc.0 source.version ≡ true) sources) (sym c.in-Of-terms.sources-is)
    (all_there place.version.now place.doc.0 c.in-Of-terms.sources place.there (subst (AreThere place.version.now) c.in-Of-terms.is c.requires.there))

pub returns-in-Of-terms-clause-aimed : goal.returns-in-Of-terms-clause-aimed
returns-in-Of-terms-clause-aimed g c =
    let place = c.args.place.now in
    ap (λ places. one_of (map places_left places))
    (c.aim.ensures.aimed ∙ ap (map (aimed_at place.doc.0 place.span)) c.in-Of-terms.sources-is
    ∙ aimed_are place c.in-Of-terms.sources (subst (AreThere place.version.now) c.in-Of-terms.is c.requires.there))
    ∙ ap one_of (map-map places_left (aimed place) (numbers_of c.in-Of-terms.sources))
    ∙ sym (ap (wanted_at place) c.in-Of-terms.is)
