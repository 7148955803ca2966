-- The law is the lemma.
use Rattle.all_matches.proofs.BooleanLaws.{satisfied-not}
use Rattle.all_matches.proofs.laws.boolean.not_law.Goals as goal

pub returns : goal.returns
returns c = satisfied-not
