-- Both are lemmas.
use Rattle.best_hits.proofs.WayIncludes.{words-each, words-first}
use Rattle.best_hits.proofs.laws.words_law.Goals as goal

pub returns-clause-each : goal.returns-clause-each
returns-clause-each c = words-each

pub returns-clause-first : goal.returns-clause-first
returns-clause-first c = words-first
