-- By the terms of all phrases.
use Rattle.std.proofs.Common.{arith}
use Rattle.plan_runs.proofs.TermReadings.{words_read}
use Rattle.plan_runs.proofs.skipping.words_skip.Goals as goal

pub returns-then-words-clause-price : goal.returns-then-words-clause-price
returns-then-words-clause-price g c = omega (arith, c.last_phrase.ensures.price, words_read c.args.words.now)

pub returns-else-words-clause-price : goal.returns-else-words-clause-price
returns-else-words-clause-price g c = omega (arith, c.first_phrase.ensures.price, words_read c.args.words.now)
