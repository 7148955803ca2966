-- Nothing is lost of the hits that were left behind.
use Rattle.std.proofs.Common.{◌-◌}
use Rattle.phrase_merges.proofs.ApartLemmas.{Passing}
use Rattle.phrase_merges.proofs.apart.stands_after.Given as goal

abbrev pub invariant-loop-end : goal.invariant-loop-end
invariant-loop-end g l = Passing l.low l.fn.high l.unit g.P.PhraseHits.state l.high l.fn.first.items l.first.items l.fn.second.items l.second.items l.place l.fn.steps l.steps

abbrev pub decreases-loop-end : goal.decreases-loop-end
decreases-loop-end g l = 4294967297 - l.place
