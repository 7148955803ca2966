-- The law is the lemma.
use Rattle.all_matches.proofs.AllowedForms.{allowed_filtered, allowed_mild_not}
use Rattle.all_matches.proofs.laws.operator.allowed_law.Goals as goal

pub returns : goal.returns
returns c = record { filter = allowed_filtered; mild_not = allowed_mild_not }
