-- The last place is the new one, or is still the one that was below it.
use Rattle.std.proofs.Common.{◌≡◌, Some, sym, ◌∙◌, ap, arith}
use Rattle.ft_base.specs.Places.{last_place}
use Rattle.ft_base.proofs.PlacesLemmas.{last_place-push}
use Rattle.tokenizer.proofs.starts.push_start.Goals as goal

pub returns-clause-after : goal.returns-clause-after
returns-clause-after c x last =
    let same : Some c.args.place ≡ Some x = sym (last_place-push c.args.places.now c.args.place) ∙ ap last_place (sym c.in_ok-push.ensures.ok) ∙ last in
    let is : c.args.place ≡ x = cc in omega arith

pub returns-in_err-push-clause-after : goal.returns-in_err-push-clause-after
returns-in_err-push-clause-after c x last =
    let below = c.requires x (ap last_place (sym c.in_err-push.ensures.err) ∙ last) in omega arith
