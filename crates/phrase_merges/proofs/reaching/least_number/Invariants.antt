-- The least number of the lists that were reached.
use Rattle.phrase_merges.specs.steps.Ahead.{number_at}
use Rattle.phrase_merges.proofs.AheadLemmas.{Gathering}
use Rattle.phrase_merges.proofs.reaching.least_number.Given as goal

abbrev pub invariant-loop-number : goal.invariant-loop-number
invariant-loop-number g l = Gathering g.P.PhraseHits.state l.by l.unit (number_at l.edge l.unit) l.place l.fn.sources.items l.sources.items l.number l.least l.fn.steps l.steps
