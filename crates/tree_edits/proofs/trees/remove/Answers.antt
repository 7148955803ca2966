-- To put nothing in the place of elements is to remove them.
use Rattle.tree_edits.proofs.ActLemmas.{removal-edited}
use Rattle.tree_edits.proofs.trees.remove.Goals as goal

pub returns-clause-edited : goal.returns-clause-edited
returns-clause-edited c = removal-edited c.args.nodes.now c.new.result c.args.tree.now c.in_ok-done.done.tree c.new.ensures c.in_ok-done.ensures.edited
