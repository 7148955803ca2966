-- The last place is the one that was put.
use Rattle.std.proofs.Common.{◌≡◌, Some, ap, sym, ◌∙◌, arith}
use Rattle.ft_base.specs.Places.{last_place}
use Rattle.ft_base.proofs.PlacesLemmas.{last_place-push}
use Rattle.ignore_view.proofs.starts.push_new.Goals as goal

pub returns-clause-ahead : goal.returns-clause-ahead
returns-clause-ahead c = λ x last.
    let same : Some c.args.place ≡ Some x = sym (last_place-push c.args.found.now c.args.place) ∙ ap last_place (sym c.in_ok-push.ensures.ok) ∙ last in
    let is : c.args.place ≡ x = cc in
    omega (arith, is)
