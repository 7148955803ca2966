-- All documents have stamps that no watch knows, unless the list is refused.
use Rattle.thesaurus_file.specs.Lines.{thesaurus_of}
use Rattle.session_state.specs.Lists.{thesaurus_put}
use Rattle.session_state.proofs.StandingLemmas.{lists-current}
use Rattle.session_state.proofs.session.Session.put_thesaurus.Goals as goal

pub invariant_of-self : goal.invariant_of-self
invariant_of-self g c =
    let inside = c.self.inside in
    let put = c.put_thesaurus-put in
    lists-current g.J.Judge.says inside.watches inside.stamped c.renew_accepted.new.stamped inside.prepared put.new.prepared c.self.invariant put.result
    (thesaurus_put inside.prepared.lists c.args.name.now (thesaurus_of c.args.block.now)) put.ensures.answer c.renew_accepted.ensures.stamped put.ensures.err c.renew_accepted.ensures.err
