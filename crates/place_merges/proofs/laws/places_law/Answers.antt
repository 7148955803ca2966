-- The law as it is proved.
use Rattle.place_merges.proofs.PlacesLaw.{places_law}
use Rattle.place_merges.proofs.laws.places_law.Goals as goal

pub returns : goal.returns
returns g c = λ passes want from words agrees variants. places_law passes want from words agrees variants
