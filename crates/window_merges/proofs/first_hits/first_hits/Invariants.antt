-- The words before this one have a hit from the nearest to the farthest.
use Rattle.window_merges.specs.steps.Reaching.{has_hit, shown_word}
use Rattle.window_merges.proofs.CloseLemmas.{Reaching}
use Rattle.window_merges.proofs.first_hits.first_hits.Given as goal

abbrev pub invariant-loop-number : goal.invariant-loop-number
invariant-loop-number g l =
    let stand = g.H.Hits.stand in
    Reaching (has_hit stand) (shown_word stand g.H.Hits.plain) l.fn.words.items l.words.items l.place l.limit l.near l.far l.number l.fn.steps l.steps
