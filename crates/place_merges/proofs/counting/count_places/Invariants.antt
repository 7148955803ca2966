-- The places before this one are counted.
use Rattle.std.proofs.Common.{◌-◌}
use Rattle.place_merges.proofs.CountLemmas.{Counted}
use Rattle.place_merges.proofs.counting.count_places.Given as goal

abbrev pub invariant-loop-place : goal.invariant-loop-place
invariant-loop-place g l = Counted g.H.Hits.stand g.H.Hits.plain l.fn.variants.items l.variants.items l.span.from l.span.to l.most l.count l.place l.fn.steps l.steps

abbrev pub decreases-loop-place : goal.decreases-loop-place
decreases-loop-place g l = l.span.to - l.place
