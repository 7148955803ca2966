-- The law.
use Rattle.selection_grammar.proofs.laws.machine_stops.Goals as goal
use Rattle.selection_grammar.proofs.Decided as laws

pub returns : goal.returns
returns c u = (laws.refused_begins u, laws.not_begun u)
