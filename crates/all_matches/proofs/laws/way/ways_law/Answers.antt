-- The law is the lemma.
use Rattle.all_matches.proofs.WayLaws.{some_way}
use Rattle.all_matches.proofs.laws.way.ways_law.Goals as goal

pub returns : goal.returns
returns c = some_way
