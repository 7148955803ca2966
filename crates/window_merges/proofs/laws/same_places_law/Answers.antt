-- The law is the lemma.
use Rattle.window_merges.proofs.ChoiceLemmas.{same_places}
use Rattle.window_merges.proofs.laws.same_places_law.Goals as goal

pub returns : goal.returns
returns c = same_places
