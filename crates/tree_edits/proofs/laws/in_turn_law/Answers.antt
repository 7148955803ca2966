-- One removal further.
use Rattle.std.proofs.Common.{ap}
use Rattle.tree_edits.specs.Edits.{joined}
use Rattle.tree_edits.proofs.PlainLemmas.{removed_in_turn, none_removed}
use Rattle.tree_edits.proofs.laws.in_turn_law.Goals as goal

pub returns-clause-none : goal.returns-clause-none
returns-clause-none c = λ root. ap joined (none_removed root)

pub returns-clause-further : goal.returns-clause-further
returns-clause-further c = removed_in_turn
