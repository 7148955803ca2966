-- The laws.
use Rattle.path_grammar.proofs.laws.machine.machine_begins.Goals as goal
use Rattle.path_grammar.proofs.Begun.{begins_read, read_begins, refused_begins, not_begun}

pub returns-clause-begins : goal.returns-clause-begins
returns-clause-begins c u = (begins_read u, (λ s. read_begins u s.0 s.1))

pub returns-clause-stops : goal.returns-clause-stops
returns-clause-stops c u = (refused_begins u, not_begun u)
