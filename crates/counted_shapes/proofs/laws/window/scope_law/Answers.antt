-- The law is the lemmas.
use Rattle.counted_shapes.proofs.ScopeLemmas.{sentence_made, paragraph_made}
use Rattle.counted_shapes.proofs.laws.window.scope_law.Goals as goal

pub returns-clause-sentence : goal.returns-clause-sentence
returns-clause-sentence c = sentence_made

pub returns-clause-paragraph : goal.returns-clause-paragraph
returns-clause-paragraph c = paragraph_made
