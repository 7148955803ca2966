-- The law is the lemma.
use Rattle.ordered_tree.proofs.ShiftLemmas.{length-words_in}
use Rattle.ordered_tree.proofs.laws.count_law.Goals as goal

pub returns : goal.returns
returns c = length-words_in
