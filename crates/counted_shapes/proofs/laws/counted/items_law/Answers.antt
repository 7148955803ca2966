-- The law is the lemmas.
use Rattle.counted_shapes.proofs.ItemLemmas.{items_hold, shape-boolean, shape-needs}
use Rattle.counted_shapes.proofs.laws.counted.items_law.Goals as goal

pub returns-clause-holds : goal.returns-clause-holds
returns-clause-holds c lexicon options tokens field form h = items_hold field lexicon options tokens form h

pub returns-clause-needs_hit : goal.returns-clause-needs_hit
returns-clause-needs_hit c = shape-needs

pub returns-clause-boolean : goal.returns-clause-boolean
returns-clause-boolean c = shape-boolean
