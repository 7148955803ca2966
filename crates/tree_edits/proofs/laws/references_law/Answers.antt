-- References of the raw edit are apart, and joining drops some.
use Rattle.tree_edits.proofs.EditLemmas.{insertion_apart, removal_apart, replacement_apart}
use Rattle.tree_edits.proofs.laws.references_law.Goals as goal

pub returns-clause-insertion : goal.returns-clause-insertion
returns-clause-insertion c = λ root content apart how r. insertion_apart root content apart r how

pub returns-clause-replacement : goal.returns-clause-replacement
returns-clause-replacement c = λ root content apart r. replacement_apart root content apart r

pub returns-clause-removal : goal.returns-clause-removal
returns-clause-removal c = removal_apart
