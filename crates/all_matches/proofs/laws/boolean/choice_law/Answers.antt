-- The law is the lemma.
use Rattle.all_matches.proofs.Choices.{some_choice}
use Rattle.all_matches.proofs.laws.boolean.choice_law.Goals as goal

pub returns : goal.returns
returns c = some_choice
