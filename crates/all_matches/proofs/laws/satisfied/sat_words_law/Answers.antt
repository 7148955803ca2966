-- The law is the lemma.
use Rattle.all_matches.proofs.Compositional.{sat-words}
use Rattle.all_matches.proofs.laws.satisfied.sat_words_law.Goals as goal

pub returns : goal.returns
returns c = sat-words
