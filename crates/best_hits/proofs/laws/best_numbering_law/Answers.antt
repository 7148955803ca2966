-- The law is the lemma.
use Rattle.best_hits.proofs.NumberedBest.{best-numbered}
use Rattle.best_hits.proofs.laws.best_numbering_law.Goals as goal

pub returns : goal.returns
returns c = λ lexicon options first second tokens form. best-numbered first lexicon options second tokens form
