-- All documents have stamps that no watch knows.
use Rattle.session_state.proofs.StandingLemmas.{abbreviated-current}
use Rattle.session_state.proofs.session.Session.set_abbreviations.Goals as goal

pub invariant_of-self-in-Ok : goal.invariant_of-self-in-Ok
invariant_of-self-in-Ok g c =
    let inside = c.self.inside in
    let is = c.set_abbreviations.ensures in
    abbreviated-current g.J.Judge.says inside.prepared.lists inside.watches inside.stamped c.set_abbreviations.new.self c.self.invariant c.set_abbreviations.result is.stamps is.next is.err
