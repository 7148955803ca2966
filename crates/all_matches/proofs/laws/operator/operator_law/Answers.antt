-- The law is the lemma.
use Rattle.all_matches.proofs.OperatorMatches.{operator-matches}
use Rattle.all_matches.proofs.laws.operator.operator_law.Goals as goal

pub returns : goal.returns
returns c = operator-matches
