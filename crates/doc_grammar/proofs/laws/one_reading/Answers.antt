-- The machine reads a text in one way.
use Rattle.doc_grammar.proofs.Decided as laws
use Rattle.doc_grammar.proofs.laws.one_reading.Goals as goal

pub returns : goal.returns
returns c = laws.one_reading
