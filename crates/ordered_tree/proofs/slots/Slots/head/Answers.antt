-- The heads are those of the slots.
use Rattle.std.proofs.Common.{length, map, get_or, ap, ◌∙◌, arith}
use Rattle.ordered_tree.specs.steps.Heads.{head_of}
use Rattle.ordered_tree.proofs.PartsLemmas.{length-wholes}
use Rattle.ordered_tree.proofs.slots.Slots.head.Goals as goal

pub get-requires : goal.get-requires
get-requires c =
    omega (arith, c.requires, ap length c.self.view_is, length-wholes c.self.inside.cores c.self.inside.heads c.self.invariant.even, c.self.invariant.even)

pub returns : goal.returns
returns c =
    let at = c.args.at in
    let head = c.get.result.now in
    c.get.ensures ∙ ap (λ heads. get_or heads at head) c.self.invariant.headed ∙ ap (λ slots. get_or (map head_of slots) at head) c.self.view_is
