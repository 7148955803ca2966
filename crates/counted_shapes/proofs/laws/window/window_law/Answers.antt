-- The law is the lemma.
use Rattle.counted_shapes.proofs.WindowLemmas.{window_made}
use Rattle.counted_shapes.proofs.laws.window.window_law.Goals as goal

pub returns : goal.returns
returns c = window_made
