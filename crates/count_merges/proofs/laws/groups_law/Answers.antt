-- The law is the lemma.
use Rattle.count_merges.proofs.GroupLemmas.{groups_once}
use Rattle.count_merges.proofs.laws.groups_law.Goals as goal

pub returns : goal.returns
returns c = groups_once
