-- The law is the lemma.
use Rattle.window_merges.proofs.SingleSpots.{single_spots}
use Rattle.window_merges.proofs.laws.single_spots_law.Goals as goal

pub returns : goal.returns
returns c = λ from to words. single_spots to words from
