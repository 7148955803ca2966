-- The law is the lemma.
use Rattle.ordered_tree.proofs.LawsLemmas.{one-node}
use Rattle.ordered_tree.proofs.laws.one_node_law.Goals as goal

pub returns : goal.returns
returns c = one-node
