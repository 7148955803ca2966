-- What a watch that is set keeps.
use Rattle.std.proofs.Common.{◌≡◌, sym, subst, false}
use Rattle.std.specs.Prelude.{IfOk}
use Rattle.reply_lines.specs.Replies.{is_refusal}
use Rattle.reply_lines.specs.declared.command.Command.{Command}
use Rattle.session_state.specs.StampsAfter.{standings_after}
use Rattle.session_state.proofs.session.Session.carry_out.Goals as goal

pub returns-in-Watch-clause-standings : goal.returns-in-Watch-clause-standings
unfolding standings_after
returns-in-Watch-clause-standings g c watches =
    subst (λ (k : Command). IfOk c.watch.result (λ reply. is_refusal reply ≡ false → c.watch.new.self.standings ≡ standings_after g.J.Judge.says c.args.self.now k)) (sym c.in-Watch.is)
    c.watch.ensures.standings
