-- The laws.
use Rattle.path_meaning.proofs.laws.ignored_law.Goals as goal
use Rattle.path_meaning.proofs.Ignored as laws

pub returns-clause-ordered : goal.returns-clause-ordered
returns-clause-ordered c = laws.ignored_in_order

pub returns-clause-either_order : goal.returns-clause-either_order
returns-clause-either_order c = laws.either_order
