-- The law is the lemma.
use Rattle.all_matches.proofs.BooleanLaws.{satisfied-or}
use Rattle.all_matches.proofs.laws.boolean.or_law.Goals as goal

pub returns : goal.returns
returns c = satisfied-or
