-- What is kept is counted anew, word by word.
use Rattle.std.proofs.Common.{arith}
use Rattle.ignore_view.specs.Without.{kept_from}
use Rattle.ignore_view.proofs.CountedLemmas.{are-counted, kept-fewer, long-counted, words-counted}
use Rattle.ignore_view.proofs.laws.without_is_counted.Goals as goal

pub returns-clause-counted : goal.returns-clause-counted
returns-clause-counted c = λ tokens holes. are-counted (kept_from holes 1 tokens)

pub returns-clause-words : goal.returns-clause-words
returns-clause-words c = λ tokens holes. words-counted (kept_from holes 1 tokens)

pub returns-clause-fewer : goal.returns-clause-fewer
returns-clause-fewer c = λ tokens holes. omega (arith, long-counted (kept_from holes 1 tokens), kept-fewer holes 1 tokens)
