-- The law.
use Rattle.session_state.proofs.laws.query_law.Goals as goal
use Rattle.session_state.proofs.QueryLemmas as laws

pub returns : goal.returns
returns c = laws.answered
