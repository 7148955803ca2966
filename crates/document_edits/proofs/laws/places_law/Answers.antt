-- Node by node, with the place of each.
use Rattle.document_edits.proofs.PlacesLemmas.{edited-places}
use Rattle.document_edits.proofs.laws.places_law.Goals as goal

pub returns : goal.returns
returns c = edited-places
