-- The law.
use Rattle.path_meaning.proofs.laws.predicates_law.Goals as goal
use Rattle.path_meaning.proofs.Meanings as laws

pub returns : goal.returns
returns c = laws.predicates_in_turn
