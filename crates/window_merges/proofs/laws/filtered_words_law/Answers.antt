-- The law is the lemma.
use Rattle.window_merges.proofs.FilterLemmas.{filtered_choices}
use Rattle.window_merges.proofs.laws.filtered_words_law.Goals as goal

pub returns : goal.returns
returns c = filtered_choices
