-- The places ascend after a push.
use Rattle.ft_base.proofs.PlacesLemmas.{is_ascending-push}
use Rattle.ft_base.proofs.places.Places.push.Goals as goal

pub invariant_of-self-2 : goal.invariant_of-self-2
invariant_of-self-2 c = rw c.in_ok-push.ensures.items (is_ascending-push c.self.inside.places.items c.args.place c.self.invariant (rw (← c.self.view_is) at c.requires))
