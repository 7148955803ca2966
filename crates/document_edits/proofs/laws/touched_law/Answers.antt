-- The nodes are renamed by their numbers in document order.
use Rattle.document_edits.proofs.TouchedLemmas.{touched-places}
use Rattle.document_edits.proofs.laws.touched_law.Goals as goal

pub returns : goal.returns
returns c = touched-places
