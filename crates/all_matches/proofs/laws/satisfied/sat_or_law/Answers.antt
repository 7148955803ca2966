-- The law is the lemma.
use Rattle.all_matches.proofs.Compositional.{sat-or_of}
use Rattle.all_matches.proofs.laws.satisfied.sat_or_law.Goals as goal

pub returns : goal.returns
returns c = sat-or_of
