-- The law is the lemma.
use Rattle.ordered_tree.proofs.ShiftLemmas.{shift}
use Rattle.ordered_tree.proofs.laws.shift_law.Goals as goal

pub returns : goal.returns
returns c = shift
