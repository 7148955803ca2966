-- The law is the lemma.
use Rattle.selection_round_trip.proofs.PrintedNames.{name_read}
use Rattle.selection_round_trip.proofs.laws.strings.names_read.Goals as goal

pub returns : goal.returns
returns c = name_read
