-- All clauses are lemmas.
use Rattle.path_subset.proofs.Depths.{path_depth, prefix_depth, symbol_depth}
use Rattle.path_subset.proofs.laws.depth_law.Goals as goal

pub returns-clause-path : goal.returns-clause-path
returns-clause-path c = path_depth

pub returns-clause-prefix : goal.returns-clause-prefix
returns-clause-prefix c = prefix_depth

pub returns-clause-symbol : goal.returns-clause-symbol
returns-clause-symbol c = symbol_depth
