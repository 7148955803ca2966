-- The law is the lemma.
use Rattle.window_merges.proofs.WantedLemmas.{wanted_places}
use Rattle.window_merges.proofs.laws.wanted_places_law.Goals as goal

pub returns : goal.returns
returns g c = λ stand span variants place. wanted_places stand span variants place
