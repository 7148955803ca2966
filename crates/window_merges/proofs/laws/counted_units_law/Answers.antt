-- The law is the lemma.
use Rattle.window_merges.proofs.UnitFilter.{counted_units}
use Rattle.window_merges.proofs.laws.counted_units_law.Goals as goal

pub returns : goal.returns
returns c = counted_units
