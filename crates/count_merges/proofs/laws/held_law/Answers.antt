-- The law is the lemma.
use Rattle.count_merges.proofs.FitLemmas.{spots_held}
use Rattle.count_merges.proofs.laws.held_law.Goals as goal

pub returns : goal.returns
returns c = λ unit rises size words kind last spots. spots_held unit rises size kind last words spots
