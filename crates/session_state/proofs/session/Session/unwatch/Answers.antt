-- The other watches keep what they know.
use Rattle.std.proofs.Common.{◌∙◌, sym, ap, subst, List}
use Rattle.session_state.specs.Held.{Held}
use Rattle.session_state.specs.KeptWatches.{standings_of}
use Rattle.session_state.specs.Standings.{without_standing, AreCurrent, IsCurrent}
use Rattle.session_state.proofs.StandingLemmas.{accepted-so}
use Rattle.session_state.proofs.WatchLemmas.{each-less, standings-removed, Entry}
use Rattle.session_state.proofs.session.Session.unwatch.Goals as goal

pub invariant_of-self : goal.invariant_of-self
invariant_of-self g c =
    let inside = c.self.inside in
    subst (λ (es : List Entry). AreCurrent g.J.Judge.says inside.stamped inside.prepared.lists es) (sym c.remove.ensures.fewer)
    (each-less (IsCurrent g.J.Judge.says inside.stamped inside.prepared.lists) c.args.name.now inside.watches c.self.invariant)

pub returns-clause-standings : goal.returns-clause-standings
returns-clause-standings g c =
    let inside = c.self.inside in
    let name = c.args.name.now in
    accepted-so c.remove.result (ap standings_of c.remove.ensures.fewer
    ∙ (standings-removed name inside.watches ∙ ap (λ (h : Held). without_standing name h.state.watches h.standings) c.self.view_is))
