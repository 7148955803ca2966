-- The law is the lemma.
use Rattle.thesaurus_file.proofs.ChainLemmas.{level_by_chains}
use Rattle.thesaurus_file.proofs.laws.level_law.Goals as goal

pub returns : goal.returns
returns c = level_by_chains
