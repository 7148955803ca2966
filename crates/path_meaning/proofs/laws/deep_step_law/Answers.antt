-- The law.
use Rattle.path_meaning.proofs.laws.deep_step_law.Goals as goal
use Rattle.path_meaning.proofs.DeepSteps as laws

pub returns : goal.returns
returns c = laws.deep_step
