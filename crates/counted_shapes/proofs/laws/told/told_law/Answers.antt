-- The law is the lemmas.
use Rattle.counted_shapes.proofs.ToldLemmas.{told-window, told-unit}
use Rattle.counted_shapes.proofs.laws.told.told_law.Goals as goal

pub returns-clause-window : goal.returns-clause-window
returns-clause-window g c before kind told plain is size items = told-window before kind told plain is size items

pub returns-clause-unit : goal.returns-clause-unit
returns-clause-unit g c before kind told plain is items = told-unit before kind told plain is items
