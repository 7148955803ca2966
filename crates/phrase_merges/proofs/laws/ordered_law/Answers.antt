-- The law is the lemma.
use Rattle.phrase_merges.proofs.UnitLemmas.{ordered}
use Rattle.phrase_merges.proofs.laws.ordered_law.Goals as goal

pub returns : goal.returns
returns c = ordered
