-- The law is the lemma.
use Rattle.allowed_selections.proofs.Allowed.{read_accepted}
use Rattle.allowed_selections.proofs.laws.allowed_law.Goals as goal

pub returns : goal.returns
returns c = read_accepted
