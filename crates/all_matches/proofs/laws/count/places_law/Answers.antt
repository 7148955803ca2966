-- The hits are counted by the places of variants of one length.
use Rattle.all_matches.proofs.VariantPlaces.{hits_by_places}
use Rattle.all_matches.proofs.laws.count.places_law.Goals as goal

pub returns : goal.returns
returns c = hits_by_places
