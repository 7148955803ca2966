-- The law.
use Rattle.path_meaning.proofs.laws.elements_law.Goals as goal
use Rattle.path_meaning.proofs.Selected as laws

pub returns : goal.returns
returns c = laws.selected-part
