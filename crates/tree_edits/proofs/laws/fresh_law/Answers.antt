-- Node by node.
use Rattle.tree_edits.proofs.FreshLemmas.{all_fresh-plain, all_fresh-refs}
use Rattle.tree_edits.proofs.laws.fresh_law.Goals as goal

pub returns-clause-content : goal.returns-clause-content
returns-clause-content c = all_fresh-plain

pub returns-clause-references : goal.returns-clause-references
returns-clause-references c = all_fresh-refs
