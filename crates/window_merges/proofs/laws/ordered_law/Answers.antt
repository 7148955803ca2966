-- The law is the lemma.
use Rattle.window_merges.proofs.FilterLemmas.{ordered_choices}
use Rattle.window_merges.proofs.laws.ordered_law.Goals as goal

pub returns : goal.returns
returns c = ordered_choices
