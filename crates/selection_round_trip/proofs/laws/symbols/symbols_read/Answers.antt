-- The law is the lemma.
use Rattle.selection_round_trip.proofs.LaidOut.{symbols_laid}
use Rattle.selection_round_trip.proofs.laws.symbols.symbols_read.Goals as goal

pub returns : goal.returns
returns c = symbols_laid
