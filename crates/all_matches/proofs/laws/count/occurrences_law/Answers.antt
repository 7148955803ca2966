-- The law.
use Rattle.all_matches.proofs.Counting.{value_occurrences}
use Rattle.all_matches.proofs.laws.count.occurrences_law.Goals as goal

pub returns : goal.returns
returns c = value_occurrences
