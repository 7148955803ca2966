-- By hits.
use Rattle.spot_merges.proofs.HitLaws.{edge_law}
use Rattle.spot_merges.proofs.laws.edge_law.Goals as goal

pub returns : goal.returns
returns c = edge_law
