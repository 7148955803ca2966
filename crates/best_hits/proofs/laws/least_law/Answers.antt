-- Both are lemmas.
use Rattle.best_hits.proofs.LeastLemmas.{none-before, some-least}
use Rattle.best_hits.proofs.laws.least_law.Goals as goal

pub returns-clause-among : goal.returns-clause-among
returns-clause-among c = some-least

pub returns-clause-least : goal.returns-clause-least
returns-clause-least c = none-before
