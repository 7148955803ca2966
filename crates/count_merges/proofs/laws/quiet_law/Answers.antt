-- The law is the lemma.
use Rattle.count_merges.proofs.LawLemmas.{quiet_between}
use Rattle.count_merges.proofs.laws.quiet_law.Goals as goal

pub returns : goal.returns
returns c = quiet_between
