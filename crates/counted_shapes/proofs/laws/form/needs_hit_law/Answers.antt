-- The law is the lemma.
use Rattle.counted_shapes.proofs.HitLemmas.{have-form}
use Rattle.counted_shapes.proofs.laws.form.needs_hit_law.Goals as goal

pub returns : goal.returns
returns c = have-form
