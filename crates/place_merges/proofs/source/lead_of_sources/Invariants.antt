-- The sources before this one have no hit from the place up to the first one found.
use Rattle.place_merges.specs.Sources.{places_left}
use Rattle.place_merges.specs.steps.Searching.{has, shown_source}
use Rattle.place_merges.proofs.UnionLemmas.{Settled}
use Rattle.place_merges.proofs.source.lead_of_sources.Given as goal

abbrev pub invariant-loop-number : goal.invariant-loop-number
invariant-loop-number g l =
    let stand = g.H.Hits.stand in
    Settled (λ source. has (places_left (stand source))) (shown_source stand g.H.Hits.plain) l.fn.sources.items l.sources.items l.place l.limit l.first l.number l.fn.steps l.steps
