-- The law is the lemma.
use Rattle.ordered_tree.proofs.LawsLemmas.{below}
use Rattle.ordered_tree.proofs.laws.below_law.Goals as goal

pub returns : goal.returns
returns c = below
