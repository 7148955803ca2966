-- The law is the lemmas.
use Rattle.window_merges.proofs.UnitFilter.{same_paragraph, same_sentence}
use Rattle.window_merges.proofs.laws.unit_law.Goals as goal

pub returns : goal.returns
returns c = record { sentence = same_sentence; paragraph = same_paragraph }
