-- The laws.
use Rattle.path_meaning.proofs.laws.order_law.Goals as goal
use Rattle.path_meaning.proofs.InOrder as laws

pub returns-clause-ordered : goal.returns-clause-ordered
returns-clause-ordered c = laws.selected_in_order

pub returns-clause-once : goal.returns-clause-once
returns-clause-once c = laws.irreflexive
