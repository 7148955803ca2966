-- Where texts keep their order, what was taken and put leads from the leaves of one tree to those of the other one.
use Rattle.tree_edits.proofs.EditLemmas.{insertion_order, leaves_lead, removal_order, replacement_order}
use Rattle.tree_edits.proofs.laws.leaves_law.Goals as goal

pub returns-clause-in_order : goal.returns-clause-in_order
returns-clause-in_order c = leaves_lead

pub returns-clause-insertion : goal.returns-clause-insertion
returns-clause-insertion c = λ root content apart how r new is. leaves_lead root new (insertion_order root content apart r how new is)

pub returns-clause-replacement : goal.returns-clause-replacement
returns-clause-replacement c = λ root content apart r new is. leaves_lead root new (replacement_order root content apart r new is)

pub returns-clause-removal : goal.returns-clause-removal
returns-clause-removal c = λ root rs apart new is. leaves_lead root new (removal_order root rs apart new is)
