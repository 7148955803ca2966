-- Both directions are lemmas.
use Rattle.path_subset.proofs.laws.spelled_law.Goals as goal
use Rattle.path_subset.proofs.Exact.{exact}
use Rattle.path_subset.proofs.Spelled.{spelled}

pub returns : goal.returns
returns c text value = (spelled text value, exact text value)
