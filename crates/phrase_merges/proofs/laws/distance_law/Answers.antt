-- The law is the lemma.
use Rattle.phrase_merges.proofs.DistanceLemmas.{apart_phrases}
use Rattle.phrase_merges.proofs.laws.distance_law.Goals as goal

pub returns : goal.returns
returns c = apart_phrases
