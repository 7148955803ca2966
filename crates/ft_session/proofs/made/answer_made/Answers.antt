-- Where there is no memory for a session, nothing was written.
use Rattle.ft_session.proofs.AnswerLemmas.{nothing_taken}
use Rattle.ft_session.proofs.made.answer_made.Goals as goal

pub returns-in_err-session-clause-prefix : goal.returns-in_err-session-clause-prefix
returns-in_err-session-clause-prefix g c = nothing_taken c.from_residual.result _ _
