-- The law is the lemma.
use Rattle.counted_shapes.proofs.FormLemmas.{made-form}
use Rattle.counted_shapes.proofs.laws.form.form_law.Goals as goal

pub returns : goal.returns
returns c lexicon options tokens field form boolean same = made-form field same lexicon options tokens form boolean
