-- What is shown is answered by its lines, or there is nothing to show.
use Rattle.session_state.proofs.QueryLemmas.{nothing-shown, shown}
use Rattle.session_state.proofs.laws.show_law.Goals as goal

pub returns-clause-elements : goal.returns-clause-elements
returns-clause-elements c = shown

pub returns-clause-nothing : goal.returns-clause-nothing
returns-clause-nothing c = nothing-shown
