-- The law is the lemma.
use Rattle.best_hits.proofs.WayIncludes.{least-by_ways}
use Rattle.best_hits.proofs.laws.least_by_ways_law.Goals as goal

pub returns : goal.returns
returns c = least-by_ways
