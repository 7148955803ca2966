-- The items before this one fit the words from the place on.
use Rattle.place_merges.specs.Sources.{wanted}
use Rattle.place_merges.specs.steps.Searching.{shown_item}
use Rattle.place_merges.proofs.VariantLemmas.{Fitted}
use Rattle.place_merges.proofs.variant.lead_of_items.Given as goal

abbrev pub invariant-loop-number : goal.invariant-loop-number
invariant-loop-number g l =
    let stand = g.H.Hits.stand in
    Fitted (wanted stand) (shown_item stand g.H.Hits.plain) l.fn.items.items l.items.items l.place l.number l.fn.steps l.steps
