-- The slots were taken apart into their heads and their cores.
use Rattle.std.proofs.Common.{◌∙◌}
use Rattle.ordered_tree.proofs.PartsLemmas.{wholes-made, even-made, headed-made}
use Rattle.ordered_tree.proofs.slots.Slots.from_vec.Goals as goal

pub invariant_of-result : goal.invariant_of-result
invariant_of-result c =
    let slots = c.args.slots.items in
    let cores = c.in_ok-cores-2.cores in
    let heads = c.in_ok-heads.heads in
    record {
      even = even-made slots cores heads (c.in_ok-cores-2.ensures ∙ c.in_ok-cores.ensures) (c.in_ok-heads.ensures ∙ c.in-Ok.ensures);
      headed = headed-made slots cores heads (c.in_ok-cores-2.ensures ∙ c.in_ok-cores.ensures) (c.in_ok-heads.ensures ∙ c.in-Ok.ensures);
    }

pub returns : goal.returns
returns c =
    wholes-made c.args.slots.items c.in_ok-cores-2.cores c.in_ok-heads.heads (c.in_ok-cores-2.ensures ∙ c.in_ok-cores.ensures) (c.in_ok-heads.ensures ∙ c.in-Ok.ensures)
