-- The law is the lemma.
use Rattle.all_matches.proofs.Compositional.{sat-with_options}
use Rattle.all_matches.proofs.laws.satisfied.sat_options_law.Goals as goal

pub returns : goal.returns
returns c = sat-with_options
