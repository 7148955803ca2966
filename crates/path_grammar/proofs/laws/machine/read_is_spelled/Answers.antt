-- The law.
use Rattle.path_grammar.proofs.laws.machine.read_is_spelled.Goals as goal
use Rattle.path_grammar.proofs.Rooted.{read_path}

pub returns : goal.returns
returns c = read_path
