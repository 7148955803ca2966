-- The law is the lemma.
use Rattle.window_merges.proofs.DistanceFilter.{distance_choices}
use Rattle.window_merges.proofs.laws.distance_law.Goals as goal

pub returns : goal.returns
returns c = distance_choices
