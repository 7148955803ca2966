-- One of its terms does.
use Rattle.std.proofs.Common.{◌<◌, ◌∙◌, sym, ap, subst, arith}
use Rattle.std.specs.Prelude.{is_some}
use Rattle.index_phrases.specs.Phrases.{wanted_at}
use Rattle.index_phrases.specs.steps.Aiming.{AreThere}
use Rattle.place_merges.specs.Places.{fits}
use Rattle.plan_runs.proofs.EdgeLemmas.{word_there}
use Rattle.plan_runs.proofs.edge_holding.word_stands.Goals as goal

pub returns-in-Of-clause-says : goal.returns-in-Of-clause-says
returns-in-Of-clause-says g c =
    let place = c.args.place.now in
    let at = c.args.part.from in
    let wanted = wanted_at place.version.now place.doc.0 place.span in
    let some = c.requires.some in
    let to = c.requires.to in
    let within : at < place.span.to = omega (arith, some, to) in
    c.is_some.ensures
    ∙ ap is_some c.seek_in.ensures.says
    ∙ word_there at place.version.now place.doc.0 place.span c.requires.from within c.in-Of.terms (subst (AreThere place.version.now) c.in-Of.is c.requires.there)
    ∙ sym (ap (λ word. fits at (wanted word)) c.in-Of.is)
