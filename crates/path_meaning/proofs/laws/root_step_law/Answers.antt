-- The law.
use Rattle.path_meaning.proofs.laws.root_step_law.Goals as goal
use Rattle.path_meaning.proofs.RootSteps as laws

pub returns : goal.returns
returns c = laws.root_step
