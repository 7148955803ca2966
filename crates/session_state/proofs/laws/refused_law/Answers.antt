-- The law.
use Rattle.session_state.proofs.laws.refused_law.Goals as goal
use Rattle.session_state.proofs.RefusedLemmas as laws

pub returns : goal.returns
returns c = laws.stays
