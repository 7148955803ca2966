-- The law is the lemma.
use Rattle.selection_round_trip.proofs.Places.{same_there}
use Rattle.selection_round_trip.proofs.laws.places.same_elsewhere.Goals as goal

pub returns : goal.returns
returns c = same_there
