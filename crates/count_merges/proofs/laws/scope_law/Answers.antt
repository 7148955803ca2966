-- The law is the lemma.
use Rattle.count_merges.proofs.LawLemmas.{scope_counted}
use Rattle.count_merges.proofs.laws.scope_law.Goals as goal

pub returns : goal.returns
returns g c = λ stand unit rises span kind items asks. scope_counted kind stand unit rises span items asks
