-- The texts that stay are in one order.
use Rattle.tree_edits.proofs.EditLemmas.{insertion_order, removal_order, replacement_order}
use Rattle.tree_edits.proofs.laws.order_law.Goals as goal

pub returns-clause-insertion : goal.returns-clause-insertion
returns-clause-insertion c = λ root content apart how r new is. insertion_order root content apart r how new is

pub returns-clause-replacement : goal.returns-clause-replacement
returns-clause-replacement c = λ root content apart r new is. replacement_order root content apart r new is

pub returns-clause-removal : goal.returns-clause-removal
returns-clause-removal c = removal_order
