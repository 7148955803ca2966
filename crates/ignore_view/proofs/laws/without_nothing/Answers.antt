-- Without holes all is kept, and what is counted from 1 is counted anew as it was.
use Rattle.std.proofs.Common.{ap, ◌∙◌}
use Rattle.ignore_view.specs.Without.{counted}
use Rattle.ignore_view.proofs.CountedLemmas.{kept-none, same-counted}
use Rattle.ignore_view.proofs.laws.without_nothing.Goals as goal

pub returns : goal.returns
returns c = λ tokens h. ap counted (kept-none 1 tokens) ∙ same-counted tokens h
