-- Nothing is written where memory runs out first.
use Rattle.std.specs.Prelude.{[]}
use Rattle.std.proofs.lemmas.Result.{err_from_is_err_and}
use Rattle.session_text.specs.Reading.{commands_left}
use Rattle.session_state.specs.Step.{replies}
use Rattle.ft_session.specs.Output.{texts_of}
use Rattle.ft_session.proofs.AnswerLemmas.{prefix_nothing}
use Rattle.ft_session.proofs.pieces.answer_end.Goals as goal

pub returns-in_err-command-clause-prefix : goal.returns-in_err-command-clause-prefix
returns-in_err-command-clause-prefix g c =
    let p = err_from_is_err_and c.from_residual.result c.from_residual.ensures.1 in
    rw p.1 (prefix_nothing (g.K.Sink.written c.args.sink.now) (texts_of (replies g.J.Judge.says c.args.answering.now.session.state (commands_left c.args.answering.now.lines []))))
