-- The law.
use Rattle.path_grammar.proofs.laws.machine.one_path.Goals as goal
use Rattle.path_grammar.proofs.Begun.{one_path}

pub returns : goal.returns
returns c = one_path
