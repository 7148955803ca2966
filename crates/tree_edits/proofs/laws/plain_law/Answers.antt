-- The change at the place, joined.
use Rattle.std.proofs.Common.{ap, ◌∙◌}
use Rattle.ordered_tree.specs.Numbered.{plain_children, reference, no_children}
use Rattle.tree_edits.proofs.EditLemmas.{one_removed, root_distinct}
use Rattle.tree_edits.proofs.PlainLemmas.{plain-insertion, plain-replacement}
use Rattle.tree_edits.proofs.laws.plain_law.Goals as goal

pub returns-clause-insertion : goal.returns-clause-insertion
returns-clause-insertion c = λ root node place apart is elem how content. plain-insertion place root node is elem (root_distinct root apart) how content

pub returns-clause-replacement : goal.returns-clause-replacement
returns-clause-replacement c = λ root node place apart is elem content. plain-replacement place root node is elem (root_distinct root apart) content

pub returns-clause-removal : goal.returns-clause-removal
returns-clause-removal c =
    λ root node place apart is elem. ap plain_children (one_removed (reference node) root) ∙ plain-replacement place root node is elem (root_distinct root apart) no_children
