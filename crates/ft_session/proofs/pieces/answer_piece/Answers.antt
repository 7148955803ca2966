-- The commands that became whole are those that were answered.
use Rattle.std.proofs.Common.{◌∙◌, sym, ap, ◌++◌}
use Rattle.session_text.specs.Reading.{commands_left, whole_left}
use Rattle.ft_session.proofs.ProgressLemmas.{answered, answered_prefix}
use Rattle.ft_session.proofs.pieces.answer_piece.Goals as goal

pub returns-clause-answered : goal.returns-clause-answered
returns-clause-answered g c =
    let given = c.as_slice.result.now in
    answered g.J.Judge.says c.answer_all.result c.args.answering.now.lines c.feed.new.self c.args.answering.now.session.state c.answer_all.new.session.state c.args.piece.now
    (g.K.Sink.written c.args.sink.now) (g.K.Sink.written c.answer_all.new.sink) given
    (λ more. c.in_ok-given.ensures.commands more ∙ ap (λ cs. cs ++ commands_left c.feed.new.self more) (sym c.as_slice.ensures))
    (λ more. c.in_ok-given.ensures.whole more ∙ ap (λ cs. cs ++ whole_left c.feed.new.self more) (sym c.as_slice.ensures))
    c.in_ok-given.ensures.none_held c.answer_all.ensures.state c.answer_all.ensures.refused c.answer_all.ensures.written

pub returns-clause-prefix : goal.returns-clause-prefix
returns-clause-prefix g c =
    let given = c.as_slice.result.now in
    answered_prefix g.J.Judge.says c.answer_all.result c.args.answering.now.lines c.feed.new.self c.args.answering.now.session.state c.args.piece.now
    (g.K.Sink.written c.args.sink.now) (g.K.Sink.written c.answer_all.new.sink) given
    (λ more. c.in_ok-given.ensures.commands more ∙ ap (λ cs. cs ++ commands_left c.feed.new.self more) (sym c.as_slice.ensures))
    c.answer_all.ensures.prefix
