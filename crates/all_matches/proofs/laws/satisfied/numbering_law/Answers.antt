-- The law is the lemma.
use Rattle.all_matches.proofs.Numbering.{satisfied_by-any_number}
use Rattle.all_matches.proofs.laws.satisfied.numbering_law.Goals as goal

pub returns : goal.returns
returns c = satisfied_by-any_number
