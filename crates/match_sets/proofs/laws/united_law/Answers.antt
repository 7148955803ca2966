-- The laws are lemmas.
use Rattle.match_sets.proofs.UnitedLemmas.{plain_same, satisfied_same}
use Rattle.match_sets.proofs.laws.united_law.Goals as goal

pub returns-clause-satisfied : goal.returns-clause-satisfied
returns-clause-satisfied c = satisfied_same

pub returns-clause-plain : goal.returns-clause-plain
returns-clause-plain c = plain_same
