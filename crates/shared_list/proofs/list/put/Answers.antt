-- The item comes into its block at the place after the block's start.
use Rattle.std.proofs.Common.{◌-◌, [], get_or, set, ap, ◌∙◌}
use Rattle.std.specs.Prelude.{insert}
use Rattle.shared_list.specs.Blocks.{joined}
use Rattle.shared_list.proofs.JoinedLemmas.{put-at}
use Rattle.shared_list.proofs.list.put.Goals as goal

pub returns-clause-ok : goal.returns-clause-ok
returns-clause-ok g c =
    let blocks = c.args.blocks.now in
    let number = c.block_of-number.result in
    ap (λ new. joined new) c.in_ok-put.ensures.ok
    ∙ ap (λ start. joined (set blocks number (insert (get_or blocks number []) (c.args.at - start) c.args.item))) c.start.ensures
    ∙ put-at blocks c.args.at number c.args.item c.block_of-number.ensures c.requires.place
