-- The farthest of the phrases that were reached.
use Rattle.phrase_merges.specs.steps.Ahead.{number_at}
use Rattle.phrase_merges.proofs.PhraseLemmas.{Reaching}
use Rattle.phrase_merges.proofs.farthest.farthest.Given as goal

abbrev pub invariant-loop-number : goal.invariant-loop-number
invariant-loop-number g l = Reaching g.P.PhraseHits.state l.by l.unit (number_at l.edge l.unit) l.place l.fn.phrases.items l.phrases.items l.number l.far l.fn.steps l.steps
