-- The words of texts are those of their leaves.
use Rattle.tree_edits.proofs.EditLemmas.{words_touched}
use Rattle.tree_edits.proofs.laws.words_law.Goals as goal

pub returns : goal.returns
returns c = words_touched
