-- The law is the lemma.
use Rattle.match_sets.proofs.NumberedOperators.{operator_numbered}
use Rattle.match_sets.proofs.laws.numbered_law.Goals as goal

pub returns : goal.returns
returns c = operator_numbered
