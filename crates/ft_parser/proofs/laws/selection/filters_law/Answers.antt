-- Each clause is a lemma.
use Rattle.ft_parser.proofs.FilterRuns.{none_deep_within, within_none_deep, deep_stands}
use Rattle.ft_parser.proofs.laws.selection.filters_law.Goals as goal

pub returns-clause-selection : goal.returns-clause-selection
returns-clause-selection c symbols tree a = (none_deep_within symbols tree a, within_none_deep symbols tree a)

pub returns-clause-operand : goal.returns-clause-operand
returns-clause-operand c before symbol d = deep_stands before symbol d
