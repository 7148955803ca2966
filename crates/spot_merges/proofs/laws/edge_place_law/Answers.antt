-- By the spots at the edge.
use Rattle.spot_merges.proofs.EdgeLemmas.{edge_variants}
use Rattle.spot_merges.proofs.laws.edge_place_law.Goals as goal

pub returns : goal.returns
returns c = λ edge span. edge_variants span edge
