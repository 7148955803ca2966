-- Both directions are lemmas.
use Rattle.path_subset.proofs.laws.refused_law.Goals as goal
use Rattle.path_subset.proofs.Exact.{cause_read}
use Rattle.path_subset.proofs.Refused.{refused}

pub returns : goal.returns
returns c text fault = (refused text fault, cause_read text fault)
