-- The law is the lemma.
use Rattle.element_lines.proofs.OneElementLemmas.{one-element}
use Rattle.element_lines.proofs.laws.one_element_law.Goals as goal

pub returns : goal.returns
returns c = one-element
