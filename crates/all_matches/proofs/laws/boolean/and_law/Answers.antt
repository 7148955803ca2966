-- The law is the lemma.
use Rattle.all_matches.proofs.BooleanLaws.{satisfied-and}
use Rattle.all_matches.proofs.laws.boolean.and_law.Goals as goal

pub returns : goal.returns
returns c = satisfied-and
