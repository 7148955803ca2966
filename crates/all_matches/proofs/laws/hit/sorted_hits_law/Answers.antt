-- The law is the lemma.
use Rattle.all_matches.proofs.SortedHits.{hits_sorted}
use Rattle.all_matches.proofs.laws.hit.sorted_hits_law.Goals as goal

pub returns : goal.returns
returns c = hits_sorted
