-- The new start is after all items.
use Rattle.std.proofs.Common.{length, ap, sym, ◌∙◌}
use Rattle.shared_list.specs.Blocks.{joined, starts_from}
use Rattle.shared_list.proofs.StartLemmas.{push-starts}
use Rattle.shared_list.proofs.blocks.Blocks.add_empty.Goals as goal

pub invariant_of-self-in-Ok : goal.invariant_of-self-in-Ok
invariant_of-self-in-Ok g c =
    let inside = c.self.inside in
    let block = c.in_ok-block.block in
    c.in_ok-push.ensures.items
    ∙ push-starts inside.blocks.items inside.starts.items c.args.start block c.self.invariant (c.requires ∙ ap (λ blocks. length (joined blocks)) (sym c.self.view_is))
    ∙ ap (λ blocks. starts_from 0 blocks) (sym c.in-Ok.ensures.items)
