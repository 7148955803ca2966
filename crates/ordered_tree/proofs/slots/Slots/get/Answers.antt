-- The slot is that of the core and the head of its number.
use Rattle.std.proofs.Common.{◌<◌, length, get_or, sym, ap, ap₂, ◌∙◌, arith}
use Rattle.ordered_tree.specs.steps.Parts.{slot_of, whole}
use Rattle.ordered_tree.proofs.PartsLemmas.{length-wholes, get_or-wholes}
use Rattle.ordered_tree.proofs.slots.Slots.get.Goals as goal

pub get-core-requires : goal.get-core-requires
get-core-requires c = omega (arith, c.requires, ap length c.self.view_is, length-wholes c.self.inside.cores c.self.inside.heads c.self.invariant.even)

pub get-head-requires : goal.get-head-requires
get-head-requires c =
    omega (arith, c.requires, ap length c.self.view_is, length-wholes c.self.inside.cores c.self.inside.heads c.self.invariant.even, c.self.invariant.even)

pub returns : goal.returns
returns c =
    let cores = c.self.inside.cores in
    let heads = c.self.inside.heads in
    let at = c.args.at in
    let core = c.get-core.result.now in
    let head = c.get-head.result.now in
    let there : at < length cores = omega (arith, c.requires, ap length c.self.view_is, length-wholes cores heads c.self.invariant.even) in
    let slot = slot_of c.whole.result in
    c.whole.ensures
    ∙ ap₂ whole c.get-core.ensures c.get-head.ensures
    ∙ sym (get_or-wholes cores heads at slot core head c.self.invariant.even there)
    ∙ ap (λ slots. get_or slots at slot) c.self.view_is
