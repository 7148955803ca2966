-- The law.
use Rattle.path_meaning.proofs.laws.conditions_law.Goals as goal
use Rattle.path_meaning.proofs.Meanings as laws

pub returns : goal.returns
returns c = laws.conditions_as_and
