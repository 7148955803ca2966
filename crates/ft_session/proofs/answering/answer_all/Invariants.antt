-- The replies so far are written, and those to what is left are the rest.
use Rattle.std.proofs.Common.{◌≡◌, ◌||◌, drop}
use Rattle.std.specs.List.{list_any}
use Rattle.reply_lines.specs.Replies.{is_refusal}
use Rattle.session_state.specs.Step.{replies, state_after}
use Rattle.ft_session.specs.Output.{portions_of}
use Rattle.ft_session.proofs.AnswerLemmas.{WrittenSoFar}
use Rattle.ft_session.proofs.answering.answer_all.Given as goal

abbrev pub invariant-loop-command : goal.invariant-loop-command
invariant-loop-command g l = record {
  state : state_after g.J.Judge.says l.session.state (drop l.command-index l.commands) ≡ state_after g.J.Judge.says l.fn.session.state l.commands;
  written : WrittenSoFar (g.K.Sink.written l.fn.sink) (g.K.Sink.written l.sink) (portions_of l.portion (replies g.J.Judge.says l.session.state (drop l.command-index l.commands))) (portions_of l.portion (replies g.J.Judge.says l.fn.session.state l.commands));
  refused : (l.refused || list_any is_refusal (replies g.J.Judge.says l.session.state (drop l.command-index l.commands))) ≡ list_any is_refusal (replies g.J.Judge.says l.fn.session.state l.commands);
  faults : g.K.Sink.faults l.sink ≡ g.K.Sink.faults l.fn.sink;
}
