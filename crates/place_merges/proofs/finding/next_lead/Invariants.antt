-- The variants before this one stand nowhere between the spot and the first one found.
use Rattle.place_merges.specs.steps.Searching.{shown_variant}
use Rattle.place_merges.specs.steps.Spotting.{variant_at}
use Rattle.place_merges.proofs.SpotSearch.{Passed}
use Rattle.place_merges.proofs.finding.next_lead.Given as goal

abbrev pub invariant-loop-number : goal.invariant-loop-number
invariant-loop-number g l =
    let stand = g.H.Hits.stand in
    Passed (variant_at stand l.to) (shown_variant stand g.H.Hits.plain) l.fn.variants.items l.variants.items l.past l.to l.first l.number l.fn.steps l.steps
