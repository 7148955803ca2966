-- Both are lemmas.
use Rattle.path_nodes.proofs.SpotLemmas.{spot-stand, spot-there}
use Rattle.path_nodes.proofs.laws.spots_law.Goals as goal

pub returns-clause-stands : goal.returns-clause-stands
returns-clause-stands c = spot-stand

pub returns-clause-references : goal.returns-clause-references
returns-clause-references c = spot-there
