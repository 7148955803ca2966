-- The laws.
use Rattle.path_grammar.proofs.laws.machine.machine_levels.Goals as goal
use Rattle.path_grammar.proofs.Depths as depths

pub returns-clause-depth : goal.returns-clause-depth
returns-clause-depth c = depths.levels_most

pub returns-clause-within : goal.returns-clause-within
returns-clause-within c most u = (depths.begins_within most u, (λ s. depths.read_within most u s.0 s.1 s.2))

pub returns-clause-one_more : goal.returns-clause-one_more
returns-clause-one_more c = depths.one_more

pub returns-clause-too_deep : goal.returns-clause-too_deep
returns-clause-too_deep c most u p within = (depths.opens most u p, depths.opened most u p within)

pub returns-clause-symbol : goal.returns-clause-symbol
returns-clause-symbol c = depths.opening
