-- The phrases before this one have hits in order, up to the place.
use Rattle.phrase_merges.proofs.OrderLemmas.{Rising}
use Rattle.phrase_merges.proofs.in_order.begin_in_order.Given as goal

abbrev pub invariant-loop-number : goal.invariant-loop-number
invariant-loop-number g l = Rising g.P.PhraseHits.state l.fn.phrases.items l.phrases.items l.place l.number l.fn.steps l.steps
