-- What is written is of the reply to the command. Where memory runs out before the reply, nothing of it was written.
use Rattle.std.proofs.Common.{◌≡◌, ap, subst}
use Rattle.std.specs.Prelude.{IfOk, OnOk, OnErr}
use Rattle.reply_lines.specs.Replies.{is_refusal, reply_text}
use Rattle.reply_lines.specs.declared.reply.Reply.{Reply}
use Rattle.session_state.specs.State.{State}
use Rattle.ft_session.specs.Output.{portion_of}
use Rattle.ft_session.specs.Run.{TookPrefix, with_text}
use Rattle.ft_session.proofs.AnswerLemmas.{nothing_taken}
use Rattle.ft_session.proofs.answering.answer.Goals as goal

pub returns-clause-refused : goal.returns-clause-refused
returns-clause-refused g c =
    subst (λ (r : Reply). IfOk c.write_reply-answered.result (λ refused. refused ≡ is_refusal r))
    (ap (λ (x : State × Reply). x.1) c.in_ok-reply.ensures.answer) c.write_reply-answered.ensures.refused

pub returns-clause-written : goal.returns-clause-written
returns-clause-written g c =
    subst (λ (r : Reply). OnOk c.write_reply-answered.result
    (g.K.Sink.written c.write_reply-answered.new.sink ≡ with_text (g.K.Sink.written c.args.sink.now) (portion_of c.args.portion (reply_text r))))
    (ap (λ (x : State × Reply). x.1) c.in_ok-reply.ensures.answer) c.write_reply-answered.ensures.written

pub returns-clause-prefix : goal.returns-clause-prefix
returns-clause-prefix g c =
    subst (λ (r : Reply). OnErr c.write_reply-answered.result
    (TookPrefix (g.K.Sink.written c.args.sink.now) (g.K.Sink.written c.write_reply-answered.new.sink) (portion_of c.args.portion (reply_text r))))
    (ap (λ (x : State × Reply). x.1) c.in_ok-reply.ensures.answer) c.write_reply-answered.ensures.prefix

pub returns-in_err-reply-clause-prefix : goal.returns-in_err-reply-clause-prefix
returns-in_err-reply-clause-prefix g c = nothing_taken c.from_residual.result _ _
