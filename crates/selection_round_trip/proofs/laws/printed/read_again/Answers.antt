-- The lemma on what was read.
use Rattle.selection_round_trip.proofs.Reading.{read_within}
use Rattle.selection_round_trip.proofs.laws.printed.read_again.Goals as goal

pub returns : goal.returns
returns c = read_within
