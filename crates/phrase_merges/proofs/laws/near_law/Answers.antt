-- The law is the lemma.
use Rattle.phrase_merges.proofs.HullLemmas.{near_is}
use Rattle.phrase_merges.proofs.laws.near_law.Goals as goal

pub returns : goal.returns
returns c = near_is
