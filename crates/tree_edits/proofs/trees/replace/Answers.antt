-- The edit of one element is that of a list with this one.
use Rattle.std.proofs.Common.{map}
use Rattle.plain_tree.specs.Document.{nodes}
use Rattle.plain_tree.specs.View.{node}
use Rattle.tree_edits.proofs.ActLemmas.{replacement-edited}
use Rattle.tree_edits.proofs.trees.replace.Goals as goal

pub returns-clause-edited : goal.returns-clause-edited
returns-clause-edited c = replacement-edited c.args.node (nodes (map node c.args.content.now)) c.args.tree.now c.in_ok-done.done.tree c.in_ok-done.ensures.edited
