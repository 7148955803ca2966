-- The law is the lemma.
use Rattle.best_hits.proofs.BestLemmas.{best-form}
use Rattle.best_hits.proofs.laws.best_law.Goals as goal

pub returns : goal.returns
returns c = best-form
