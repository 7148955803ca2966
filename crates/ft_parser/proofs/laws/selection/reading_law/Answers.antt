-- Both directions are lemmas.
use Rattle.std.proofs.Common.{length, subst}
use Rattle.ft_parser.specs.Answer.{selection_read}
use Rattle.query_lexer.specs.Symbols.{symbols_of}
use Rattle.ft_parser.proofs.SelectedExact.{selects_read, refuses_read}
use Rattle.ft_parser.proofs.SelectedLaws.{Outcome, all_read}
use Rattle.ft_parser.proofs.laws.selection.reading_law.Goals as goal

pub returns-clause-selection : goal.returns-clause-selection
unfolding selection_read
returns-clause-selection c text form = (
  (λ h. subst (Outcome (symbols_of text).placed (symbols_of text).bad (length text)) h (all_read (symbols_of text).placed (symbols_of text).bad (length text))),
  λ x. selects_read (symbols_of text).placed (symbols_of text).bad (length text) form x,
)

pub returns-clause-fault : goal.returns-clause-fault
unfolding selection_read
returns-clause-fault c text fault = (
  (λ h. subst (Outcome (symbols_of text).placed (symbols_of text).bad (length text)) h (all_read (symbols_of text).placed (symbols_of text).bad (length text))),
  λ x. refuses_read (symbols_of text).placed (symbols_of text).bad (length text) fault x,
)
