-- A document that comes has a stamp that no watch knows.
use Rattle.document_store.specs.Documents.{loadable}
use Rattle.session_state.proofs.StandingLemmas.{loaded-current}
use Rattle.session_state.proofs.session.Session.load.Goals as goal

pub invariant_of-self-2 : goal.invariant_of-self-2
invariant_of-self-2 g c =
    let inside = c.self.inside in
    let is = c.load.ensures in
    loaded-current g.J.Judge.says inside.prepared.lists inside.watches inside.stamped c.load.new.self c.self.invariant c.args.name.now (loadable c.args.block.now)
    c.stamps-stamps.ensures.kept.as_many c.load.result is.answer is.abbreviations is.stamps is.next is.err is.refused
