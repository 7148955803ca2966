-- The law is the lemma.
use Rattle.selection_round_trip.proofs.PrintedNumbers.{number_read}
use Rattle.selection_round_trip.proofs.laws.strings.numbers_read.Goals as goal

pub returns : goal.returns
returns c = number_read
