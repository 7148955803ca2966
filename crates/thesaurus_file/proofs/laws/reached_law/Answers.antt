-- The law is the lemma.
use Rattle.thesaurus_file.proofs.ReachedLemmas.{reached_by_chains}
use Rattle.thesaurus_file.proofs.laws.reached_law.Goals as goal

pub returns : goal.returns
returns c = reached_by_chains
