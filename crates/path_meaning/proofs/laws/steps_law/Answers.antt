-- The law.
use Rattle.path_meaning.proofs.laws.steps_law.Goals as goal
use Rattle.path_meaning.proofs.Meanings as laws

pub returns : goal.returns
returns c = laws.steps_in_turn
