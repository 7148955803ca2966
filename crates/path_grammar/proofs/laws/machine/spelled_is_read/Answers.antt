-- The law.
use Rattle.path_grammar.proofs.laws.machine.spelled_is_read.Goals as goal
use Rattle.path_grammar.proofs.Completed.{path_read}

pub returns : goal.returns
returns c = path_read
