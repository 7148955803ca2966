-- Elements by a test of their references.
use Rattle.tree_edits.proofs.ElementLemmas.{insertion_elements, removal_elements, replacement_elements}
use Rattle.tree_edits.proofs.laws.elements_law.Goals as goal

pub returns-clause-insertion : goal.returns-clause-insertion
returns-clause-insertion c = λ root content apart how r. insertion_elements root content apart how r

pub returns-clause-replacement : goal.returns-clause-replacement
returns-clause-replacement c = λ root content apart r. replacement_elements root content apart r

pub returns-clause-removal : goal.returns-clause-removal
returns-clause-removal c = removal_elements
