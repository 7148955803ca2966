-- The law.
use Rattle.selection_grammar.proofs.laws.one_reading.Goals as goal
use Rattle.selection_grammar.proofs.Decided as laws

pub returns : goal.returns
returns c = laws.one_reading
