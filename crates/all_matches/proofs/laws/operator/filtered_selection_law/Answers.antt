-- The law is the lemma.
use Rattle.all_matches.proofs.PlainOperators.{some_clean_way}
use Rattle.all_matches.proofs.laws.operator.filtered_selection_law.Goals as goal

pub returns : goal.returns
returns c = some_clean_way
