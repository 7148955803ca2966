-- The law.
use Rattle.selection_grammar.proofs.laws.machine_reads.Goals as goal
use Rattle.selection_grammar.proofs.Decided as laws

pub returns : goal.returns
returns c u x = (laws.read_spells u x, laws.spells_read u x)
