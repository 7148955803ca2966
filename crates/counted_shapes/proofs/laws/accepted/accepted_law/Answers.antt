-- The law is the lemmas.
use Rattle.counted_shapes.proofs.AcceptedLemmas.{allowed-accepted, shape-plain}
use Rattle.counted_shapes.proofs.laws.accepted.accepted_law.Goals as goal

pub returns-clause-allowed : goal.returns-clause-allowed
returns-clause-allowed c = allowed-accepted

pub returns-clause-plain : goal.returns-clause-plain
returns-clause-plain c = shape-plain
