-- The law is the lemma.
use Rattle.selection_round_trip.proofs.ReadBack.{form_read_back}
use Rattle.selection_round_trip.proofs.laws.printed.read_back.Goals as goal

pub returns : goal.returns
returns c = form_read_back
