-- By hits.
use Rattle.spot_merges.proofs.HitLaws.{apart_law}
use Rattle.spot_merges.proofs.laws.apart_law.Goals as goal

pub returns : goal.returns
returns c = apart_law
