-- The law is the lemma.
use Rattle.all_matches.proofs.BooleanLaws.{satisfied-times}
use Rattle.all_matches.proofs.laws.boolean.occurs_law.Goals as goal

pub returns : goal.returns
returns c = satisfied-times
