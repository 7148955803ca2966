-- The other documents keep their stamps.
use Rattle.session_state.proofs.StandingLemmas.{dropped-current}
use Rattle.session_state.proofs.session.Session.remove.Goals as goal

pub invariant_of-self-2 : goal.invariant_of-self-2
invariant_of-self-2 g c =
    let inside = c.self.inside in
    let is = c.remove.ensures in
    dropped-current g.J.Judge.says inside.prepared.lists inside.watches inside.stamped c.remove.new.self c.self.invariant c.args.name.now c.remove.result
    is.answer is.abbreviations is.stamps is.next is.err is.refused
