-- The law is the lemma.
use Rattle.thesaurus_file.proofs.GroupLemmas.{links_of_lines}
use Rattle.thesaurus_file.proofs.laws.links_law.Goals as goal

pub returns : goal.returns
returns c = links_of_lines
