-- The law is the lemmas.
use Rattle.counted_shapes.proofs.ToldLemmas.{lies-window, lies-unit}
use Rattle.counted_shapes.proofs.laws.told.lies_law.Goals as goal

pub returns-clause-window : goal.returns-clause-window
returns-clause-window c = lies-window

pub returns-clause-unit : goal.returns-clause-unit
returns-clause-unit c = lies-unit
