-- The law as it is proved.
use Rattle.ignore_view.proofs.HoleLemmas.{moved}
use Rattle.ignore_view.proofs.laws.holes_in_spans.Goals as goal

pub returns : goal.returns
returns c = λ span holes place. moved span holes place
