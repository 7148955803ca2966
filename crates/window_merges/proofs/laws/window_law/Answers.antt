-- The law is the lemma.
use Rattle.window_merges.proofs.FilterLemmas.{window_choices}
use Rattle.window_merges.proofs.laws.window_law.Goals as goal

pub returns : goal.returns
returns c = window_choices
