-- The law is the lemma.
use Rattle.all_matches.proofs.PlainOperators.{plain}
use Rattle.all_matches.proofs.laws.operator.plain_operator_law.Goals as goal

pub returns : goal.returns
returns c = plain
