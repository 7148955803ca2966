-- What is begun and reached on the way is begun and reached at the end.
use Rattle.doc_grammar.proofs.WithinLimits as limits
use Rattle.doc_grammar.proofs.laws.limits_of_nodes.Goals as goal

pub returns : goal.returns
returns c = limits.passes_none
