-- The law is the lemmas.
use Rattle.counted_shapes.proofs.CountedLemmas.{some-window, some-unit}
use Rattle.counted_shapes.proofs.laws.counted.events_law.Goals as goal

pub returns-clause-window : goal.returns-clause-window
returns-clause-window c = some-window

pub returns-clause-unit : goal.returns-clause-unit
returns-clause-unit c = some-unit
