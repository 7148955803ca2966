-- The law is the lemma.
use Rattle.allowed_selections.proofs.Allowed.{selects_accepted}
use Rattle.allowed_selections.proofs.laws.selected_law.Goals as goal

pub returns : goal.returns
returns c = selects_accepted
