-- The laws are lemmas.
use Rattle.match_sets.proofs.AlikeLemmas.{alike_and, alike_filtered, alike_mild_not, alike_not, alike_or, alike_satisfied}
use Rattle.match_sets.proofs.laws.alike_law.Goals as goal

pub returns-clause-ft_or : goal.returns-clause-ft_or
returns-clause-ft_or c = alike_or

pub returns-clause-ft_and : goal.returns-clause-ft_and
returns-clause-ft_and c = alike_and

pub returns-clause-mild_not : goal.returns-clause-mild_not
returns-clause-mild_not c = alike_mild_not

pub returns-clause-ft_not : goal.returns-clause-ft_not
returns-clause-ft_not c = alike_not

pub returns-clause-filter : goal.returns-clause-filter
returns-clause-filter c = alike_filtered

pub returns-clause-satisfied : goal.returns-clause-satisfied
returns-clause-satisfied c = alike_satisfied
