-- The words before this one have hits in order, up to the place.
use Rattle.window_merges.specs.Rows.{places_in}
use Rattle.window_merges.specs.steps.Reaching.{has_hit, shown_word}
use Rattle.window_merges.proofs.OrderLemmas.{Rising}
use Rattle.window_merges.proofs.in_order.stand_in_order.Given as goal

abbrev pub invariant-loop-number : goal.invariant-loop-number
invariant-loop-number g l =
    let stand = g.H.Hits.stand in
    Rising (has_hit stand) (λ word. places_in stand l.span word.items) (shown_word stand g.H.Hits.plain) l.fn.words.items l.words.items l.span.from l.span.to l.place l.number l.fn.steps l.steps
