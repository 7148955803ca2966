-- The spot that is found is told, and the others are left after it.
use Rattle.place_merges.specs.Sources.{wanted_words}
use Rattle.place_merges.specs.Spots.{spots_left}
use Rattle.index_phrases.specs.Phrases.{numbered_hit}
use Rattle.index_phrases.proofs.CursorLemmas.{inside_span, none_left}
use Rattle.index_phrases.proofs.finding.found_after.Goals as goal

pub found_on-requires-clause-inside : goal.found_on-requires-clause-inside
found_on-requires-clause-inside g c =
    inside_span c.args.target.now.span.from c.args.after.place c.args.to c.next_spot.result c.in-Some.spot c.requires.place c.next_spot.ensures.inside c.in-Some.is

pub returns-in-None-clause-left : goal.returns-in-None-clause-left
returns-in-None-clause-left g c =
    let to = c.args.to in
    let words = wanted_words (λ cursor. cursor) c.next_spot.new.variants.items in
    none_left (numbered_hit c.args.number c.args.target.now.breaks.breaks.now c.args.target.now.span) _ (spots_left to words) c.next_spot.result c.next_spot.ensures.spots c.in-None.is
