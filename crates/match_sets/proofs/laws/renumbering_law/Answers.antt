-- The laws are lemmas.
use Rattle.match_sets.proofs.NumberedFilters.{filtered_same}
use Rattle.match_sets.proofs.NumberedMatches.{and_same, mild_not_same, not_same, or_same}
use Rattle.match_sets.proofs.laws.renumbering_law.Goals as goal

pub returns-clause-ft_or : goal.returns-clause-ft_or
returns-clause-ft_or c = or_same

pub returns-clause-ft_and : goal.returns-clause-ft_and
returns-clause-ft_and c = and_same

pub returns-clause-mild_not : goal.returns-clause-mild_not
returns-clause-mild_not c = mild_not_same

pub returns-clause-ft_not : goal.returns-clause-ft_not
returns-clause-ft_not c = not_same

pub returns-clause-filter : goal.returns-clause-filter
returns-clause-filter c = filtered_same
