-- The law is the lemmas.
use Rattle.counted_shapes.proofs.AcceptedLemmas.{counted-field}
use Rattle.counted_shapes.proofs.CountedLemmas.{counted-window, counted-sentence, counted-paragraph}
use Rattle.counted_shapes.proofs.laws.counted.counted_law.Goals as goal

pub returns-clause-window : goal.returns-clause-window
returns-clause-window c = counted-window

pub returns-clause-same_sentence : goal.returns-clause-same_sentence
returns-clause-same_sentence c = counted-sentence

pub returns-clause-same_paragraph : goal.returns-clause-same_paragraph
returns-clause-same_paragraph c = counted-paragraph

pub returns-clause-in_field : goal.returns-clause-in_field
returns-clause-in_field c lexicon options kind field form tokens known shape needs = counted-field lexicon options form tokens shape needs kind field known
