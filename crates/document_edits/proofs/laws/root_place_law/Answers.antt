-- No two elements have one place.
use Rattle.document_edits.proofs.PlacesLemmas.{root-place}
use Rattle.document_edits.proofs.laws.root_place_law.Goals as goal

pub returns : goal.returns
returns c = root-place
