-- The item comes into its block at the place after the block's start.
use Rattle.std.proofs.Common.{◌-◌, [], get_or, set, ap, ◌∙◌}
use Rattle.shared_list.specs.Blocks.{joined}
use Rattle.shared_list.proofs.JoinedLemmas.{replace-at}
use Rattle.shared_list.proofs.list.replace.Goals as goal

pub returns-clause-ok : goal.returns-clause-ok
returns-clause-ok g c =
    let blocks = c.args.blocks.now in
    let number = c.block_near-number.result in
    ap (λ new. joined new) c.in_ok-replace.ensures.ok
    ∙ ap (λ start. joined (set blocks number (set (get_or blocks number []) (c.args.at - start) c.args.item))) c.start.ensures
    ∙ replace-at blocks c.args.at number c.args.item c.block_near-number.ensures c.requires
