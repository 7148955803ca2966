-- The same places are kept.
use Rattle.std.proofs.Common.{ap, arith}
use Rattle.ignore_view.specs.Without.{counted}
use Rattle.ignore_view.proofs.CountedLemmas.{kept-same}
use Rattle.ignore_view.proofs.laws.without_same_places.Goals as goal

pub returns : goal.returns
returns c = λ tokens a b h. ap counted (kept-same a b 1 tokens (λ p from to. h p from (omega (arith, to))))
