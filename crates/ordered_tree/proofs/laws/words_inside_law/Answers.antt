-- The law is the lemma.
use Rattle.ordered_tree.proofs.ShiftLemmas.{stands-few}
use Rattle.ordered_tree.proofs.laws.words_inside_law.Goals as goal

pub returns : goal.returns
returns c = stands-few
