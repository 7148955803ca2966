-- The law is the lemma.
use Rattle.phrase_merges.proofs.AlikeLemmas.{alike}
use Rattle.phrase_merges.proofs.laws.alike_law.Goals as goal

pub returns : goal.returns
returns c = alike
