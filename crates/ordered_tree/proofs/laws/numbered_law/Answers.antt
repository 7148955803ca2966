-- The law is the lemma.
use Rattle.ordered_tree.proofs.BuildingLemmas.{plain-numbered}
use Rattle.ordered_tree.proofs.laws.numbered_law.Goals as goal

pub returns : goal.returns
returns c = plain-numbered
