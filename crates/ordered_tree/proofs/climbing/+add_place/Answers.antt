-- The numbers that lead to the parent come first, then the node's own; above the root there is none.
use Rattle.std.proofs.Common.{◌≡◌, ◌-◌, ◌<◌, ◌++◌, ◌∷◌, [], length, sym, ap, ◌∙◌, arith, append_assoc, append-nil}
use Rattle.ordered_tree.specs.steps.Climbing.{climbed}
use Rattle.ordered_tree.specs.Slots.{slot_at}
use Rattle.ordered_tree.proofs.PlacesLemmas.{Up, climbs-here, climbs-slot, up, climbed-root}
use Rattle.ordered_tree.specs.steps.Parts.{slot_of}
use Rattle.ordered_tree.proofs.climbing.+add_place.Goals as goal

pub get-requires : goal.get-requires
get-requires t c =
    let here : c.args.here.0 < length c.args.slots.now = climbs-here c.args.slots.now c.args.levels c.args.here c.requires in
    omega arith

pub overflow_sub-levels : goal.overflow_sub-levels
overflow_sub-levels t c =
    let slots = c.args.slots.now in
    let same : (slot_of c.get.result) ≡ slot_at slots c.args.here = climbs-slot slots c.args.levels c.args.here (slot_of c.get.result) c.requires c.get.ensures in
    let u : Up slots c.args.levels c.args.here c.in-Some.parent = up slots c.args.levels c.args.here c.in-Some.parent c.requires (ap (λ s. s.around.parent) (sym same) ∙ c.in-Some.is) in
    omega (arith, u.some)

pub add_place-requires : goal.add_place-requires
add_place-requires t c =
    let slots = c.args.slots.now in
    let same : (slot_of c.get.result) ≡ slot_at slots c.args.here = climbs-slot slots c.args.levels c.args.here (slot_of c.get.result) c.requires c.get.ensures in
    let u : Up slots c.args.levels c.args.here c.in-Some.parent = up slots c.args.levels c.args.here c.in-Some.parent c.requires (ap (λ s. s.around.parent) (sym same) ∙ c.in-Some.is) in
    (omega (arith, u.some, c.decreases), u.may)

pub returns-in_ok-push : goal.returns-in_ok-push
returns-in_ok-push t c =
    let slots = c.args.slots.now in
    let same : (slot_of c.get.result) ≡ slot_at slots c.args.here = climbs-slot slots c.args.levels c.args.here (slot_of c.get.result) c.requires c.get.ensures in
    let u : Up slots c.args.levels c.args.here c.in-Some.parent = up slots c.args.levels c.args.here c.in-Some.parent c.requires (ap (λ s. s.around.parent) (sym same) ∙ c.in-Some.is) in
    let old = c.args.place.now in
    c.in_ok-push.ensures.ok
    ∙ ap (λ l. l ++ (slot_of c.get.result).around.number ∷ []) c.in_ok-add_place.ensures
    ∙ append_assoc old _ ((slot_of c.get.result).around.number ∷ [])
    ∙ ap (λ s. old ++ (climbed (c.args.levels - 1) c.args.slots.now c.in-Some.parent ++ s.around.number ∷ [])) same
    ∙ ap (λ l. old ++ l) (sym u.is)

pub returns-in_default : goal.returns-in_default
returns-in_default t c =
    let slots = c.args.slots.now in
    let same : (slot_of c.get.result) ≡ slot_at slots c.args.here = climbs-slot slots c.args.levels c.args.here (slot_of c.get.result) c.requires c.get.ensures in
    let none = climbed-root slots c.args.levels c.args.here (ap (λ s. s.around.parent) (sym same) ∙ c.in_default.is) in
    sym (ap (λ l. c.args.place.now ++ l) none ∙ append-nil c.args.place.now)
