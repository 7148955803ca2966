-- By hits.
use Rattle.spot_merges.proofs.ClearLaws.{clear_law}
use Rattle.spot_merges.proofs.laws.clear_law.Goals as goal

pub returns : goal.returns
returns c = clear_law
