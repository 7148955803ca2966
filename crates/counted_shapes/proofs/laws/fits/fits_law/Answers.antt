-- The law is the lemmas.
use Rattle.counted_shapes.proofs.FitsLemmas.{fits-window, fits-sentence, fits-paragraph}
use Rattle.counted_shapes.proofs.laws.fits.fits_law.Goals as goal

pub returns-clause-window : goal.returns-clause-window
returns-clause-window c = fits-window

pub returns-clause-same_sentence : goal.returns-clause-same_sentence
returns-clause-same_sentence c = fits-sentence

pub returns-clause-same_paragraph : goal.returns-clause-same_paragraph
returns-clause-same_paragraph c = fits-paragraph
