-- By computation.
use Rattle.std.proofs.Common.{refl}
use Rattle.ordered_tree.specs.Leaves.{leaves_after}
use Rattle.index_updates.specs.Follows.{tree_document}
use Rattle.index_updates.proofs.examples.leaves_of_trees.Goals as goal

pub returns-clause-ids : goal.returns-clause-ids
unfolding tree_document leaves_after
returns-clause-ids c = refl

pub returns-clause-no_leaves : goal.returns-clause-no_leaves
unfolding tree_document leaves_after
returns-clause-no_leaves c = refl

pub returns-clause-under_titles : goal.returns-clause-under_titles
unfolding tree_document leaves_after
returns-clause-under_titles c = refl
