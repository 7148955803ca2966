-- The law is the lemma.
use Rattle.all_matches.proofs.Compositional.{sat-and_of}
use Rattle.all_matches.proofs.laws.satisfied.sat_and_law.Goals as goal

pub returns : goal.returns
returns c = sat-and_of
