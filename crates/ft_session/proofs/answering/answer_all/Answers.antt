-- Each reply stands after those before it.
use Rattle.std.proofs.Common.{◌∙◌, sym, ap, refl, subst, ◌||◌, ◌+◌, List, drop}
use Rattle.std.specs.List.{list_any}
use Rattle.std.proofs.lemmas.Result.{err_from_is_err_and}
use Rattle.std.proofs.Math.Bool.{or_assoc}
use Rattle.reply_lines.specs.declared.reply.Reply.{Reply}
use Rattle.reply_lines.specs.Replies.{is_refusal, reply_text}
use Rattle.session_state.specs.Step.{replies, step}
use Rattle.ft_session.specs.Output.{portion_of, portions_of}
use Rattle.ft_session.proofs.AnswerLemmas.{WrittenSoFar, prefix_more, replies-next, state_after-next, written_more, written_start}
use Rattle.ft_session.proofs.answering.answer_all.Goals as goal

pub loop-command-init : goal.loop-command-init
loop-command-init g c =
    let all = portions_of c.args.portion (replies g.J.Judge.says c.args.session.now.state c.args.commands.now) in
    record {
      state = refl;
      written = written_start (g.K.Sink.written c.args.sink.now) all all refl;
      refused = refl;
      faults = refl;
    }

pub loop-command-preserved : goal.loop-command-preserved
loop-command-preserved g c =
    let items = c.args.commands.now in
    let at = c.loop-command.command-index in
    let all = portions_of c.args.portion (replies g.J.Judge.says c.args.session.now.state items) in
    let reply = (step g.J.Judge.says c.loop-command.session.state c.command-item.result).1 in
    let left = replies g.J.Judge.says c.answer.new.session.state (drop (at + 1) items) in
    let next = replies-next g.J.Judge.says c.loop-command.session.state c.answer.new.session.state items at c.command-item.result c.loop-command-test.true c.command-item.is c.in_ok-refused.ensures.state in
    record {
      state = sym (state_after-next g.J.Judge.says c.loop-command.session.state c.answer.new.session.state items at c.command-item.result c.loop-command-test.true c.command-item.is c.in_ok-refused.ensures.state)
          ∙ c.loop-command.invariant.state;
      written = written_more (g.K.Sink.written c.args.sink.now) (g.K.Sink.written c.loop-command.sink) (g.K.Sink.written c.answer.new.sink) (portion_of c.args.portion (reply_text reply)) (portions_of c.args.portion left) all
          (subst (λ (rs : List Reply). WrittenSoFar (g.K.Sink.written c.args.sink.now) (g.K.Sink.written c.loop-command.sink) (portions_of c.args.portion rs) all) next c.loop-command.invariant.written)
          c.in_ok-refused.ensures.written;
      refused = or_assoc c.loop-command.refused c.in_ok-refused.field-0 (list_any is_refusal left)
          ∙ (ap (λ b. c.loop-command.refused || (b || list_any is_refusal left)) c.in_ok-refused.ensures.refused
          ∙ (sym (ap (λ (rs : List Reply). c.loop-command.refused || list_any is_refusal rs) next) ∙ c.loop-command.invariant.refused));
      faults = c.in_ok-refused.ensures.faults ∙ c.loop-command.invariant.faults;
    }

pub returns-in_err-refused-clause-prefix : goal.returns-in_err-refused-clause-prefix
returns-in_err-refused-clause-prefix g c =
    let p = err_from_is_err_and c.from_residual.result c.from_residual.ensures.1 in
    let items = c.args.commands.now in
    let at = c.loop-command.command-index in
    let all = portions_of c.args.portion (replies g.J.Judge.says c.args.session.now.state items) in
    let now = step g.J.Judge.says c.loop-command.session.state c.command-item.result in
    let left = replies g.J.Judge.says now.0 (drop (at + 1) items) in
    let next = replies-next g.J.Judge.says c.loop-command.session.state now.0 items at c.command-item.result c.loop-command-test.true c.command-item.is refl in
    rw p.1 (prefix_more (g.K.Sink.written c.args.sink.now) (g.K.Sink.written c.loop-command.sink) (g.K.Sink.written c.answer.new.sink) (portion_of c.args.portion (reply_text now.1)) (portions_of c.args.portion left) all
    (subst (λ (rs : List Reply). WrittenSoFar (g.K.Sink.written c.args.sink.now) (g.K.Sink.written c.loop-command.sink) (portions_of c.args.portion rs) all) next c.loop-command.invariant.written)
    c.in_err-refused.ensures.prefix)
