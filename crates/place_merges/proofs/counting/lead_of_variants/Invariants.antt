-- The variants before this one begin nowhere from the place up to the first one found.
use Rattle.place_merges.specs.steps.Searching.{variant_stands, shown_variant}
use Rattle.place_merges.proofs.UnionLemmas.{Searched}
use Rattle.place_merges.proofs.counting.lead_of_variants.Given as goal

abbrev pub invariant-loop-number : goal.invariant-loop-number
invariant-loop-number g l =
    let stand = g.H.Hits.stand in
    Searched (variant_stands stand l.to) (shown_variant stand g.H.Hits.plain) l.fn.variants.items l.variants.items l.place l.to l.first l.number l.fn.steps l.steps
