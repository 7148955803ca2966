-- What is refused leaves what is held, as the command itself says of the state and of the versions; what stamps and answers there are then.
use Rattle.session_state.proofs.RefusedLemmas.{refused-held, stamps-after, standings-now}
use Rattle.session_state.proofs.session.Session.step.Goals as goal

pub returns-clause-refused : goal.returns-clause-refused
returns-clause-refused g c =
    refused-held g.J.Judge.says c.args.self.now c.carry_out-reply.new.self c.args.command.now c.carry_out-reply.ensures.version c.carry_out-reply.ensures.mark_versions
    c.carry_out-reply.ensures.stamps_kept c.carry_out-reply.ensures.standings_kept
    c.carry_out-reply.result c.carry_out-reply.ensures.answer c.carry_out-reply.ensures.version_refused c.carry_out-reply.ensures.mark_versions_refused
    c.carry_out-reply.ensures.stamps_refused c.carry_out-reply.ensures.standings_refused

pub returns-clause-stamps : goal.returns-clause-stamps
returns-clause-stamps g c =
    stamps-after g.J.Judge.says c.args.self.now.state c.args.command.now c.args.self.now.stamps c.carry_out-reply.new.self.stamps c.carry_out-reply.result
    c.carry_out-reply.ensures.stamps c.carry_out-reply.ensures.stamps_kept

pub returns-clause-standings : goal.returns-clause-standings
returns-clause-standings g c =
    standings-now g.J.Judge.says c.args.self.now c.args.command.now c.carry_out-reply.new.self.standings c.carry_out-reply.result
    c.carry_out-reply.ensures.standings c.carry_out-reply.ensures.standings_kept
