-- No place is kept.
use Rattle.std.proofs.Common.{ap}
use Rattle.ignore_view.specs.Without.{counted}
use Rattle.ignore_view.proofs.CountedLemmas.{kept-all}
use Rattle.ignore_view.proofs.HoleLemmas.{left-out}
use Rattle.ignore_view.proofs.laws.without_all.Goals as goal

pub returns : goal.returns
returns c = λ tokens holes h. ap counted (kept-all holes 1 tokens (λ p from to. left-out tokens p from to holes h))
