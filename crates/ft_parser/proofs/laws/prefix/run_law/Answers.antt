-- The law.
use Rattle.ft_parser.proofs.PrefixLaws.{run_begins, run_longest}
use Rattle.ft_parser.proofs.laws.prefix.run_law.Goals as goal

pub returns-clause-begins : goal.returns-clause-begins
returns-clause-begins c = run_begins

pub returns-clause-longest : goal.returns-clause-longest
returns-clause-longest c = run_longest
