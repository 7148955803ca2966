-- The cursors of a word have the places of its terms.
use Rattle.std.proofs.Common.{◌≡◌, ap, subst, sym, ◌∙◌, true, List, map}
use Rattle.std.specs.List.{All}
use Rattle.std.proofs.lemmas.Simd.{map-map}
use Rattle.index_meaning.specs.Documents.{has_document}
use Rattle.index_versions.specs.Terms.{VersionTerm, aimed_at}
use Rattle.place_merges.specs.Places.{one_of}
use Rattle.place_merges.specs.Sources.{places_left}
use Rattle.index_phrases.specs.steps.Aiming.{HasDocument, own_wanted}
use Rattle.index_phrases.proofs.aiming.aim_item.Goals as goal

pub aim-requires-clause-there : goal.aim-requires-clause-there
aim-requires-clause-there g c =
    let doc = c.args.target.now.doc.0 in
    subst (λ (sources : List VersionTerm). All (λ source. has_document doc source.version ≡ true) sources) (sym c.in-Of-terms.sources-is)
    (subst (HasDocument doc) c.in-Of-terms.is c.requires.there)

pub returns-in-Of-terms-clause-aimed : goal.returns-in-Of-terms-clause-aimed
returns-in-Of-terms-clause-aimed g c =
    let at = aimed_at c.args.target.now.doc.0 c.args.target.now.span in
    ap (λ places. one_of (map places_left places)) (c.aim.ensures.aimed ∙ ap (map at) c.in-Of-terms.sources-is)
    ∙ ap one_of (map-map places_left at c.in-Of-terms.sources)
    ∙ sym (ap (own_wanted c.args.target.now.doc.0 c.args.target.now.span) c.in-Of-terms.is)
