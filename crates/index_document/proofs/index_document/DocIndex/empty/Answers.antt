-- No leaves have no terms and no rows.
use Rattle.index_document.proofs.SoundLemmas.{sound-empty}
use Rattle.index_document.proofs.index_document.DocIndex.empty.Goals as goal

pub invariant_of-result : goal.invariant_of-result
invariant_of-result c =
    let made = c.empty-parts.ensures in sound-empty c.empty-parts.result c.args.doc.0 made.leaves made.ids made.starts made.rows
