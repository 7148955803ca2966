-- The places of both are led to from the root.
use Rattle.session_state.proofs.IgnoredLemmas.{common-places}
use Rattle.session_state.proofs.laws.ignored_law.Goals as goal

pub returns : goal.returns
returns c = λ root e ignored place a b least most. common-places root e.place e.node ignored.place ignored.node place a b least most
