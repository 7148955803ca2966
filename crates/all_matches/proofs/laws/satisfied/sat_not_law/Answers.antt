-- The law is the lemma.
use Rattle.all_matches.proofs.Compositional.{sat-not_of}
use Rattle.all_matches.proofs.laws.satisfied.sat_not_law.Goals as goal

pub returns : goal.returns
returns c = sat-not_of
