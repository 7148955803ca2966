-- The item goes out of its block, and a block that it leaves empty goes with it.
use Rattle.std.proofs.Common.{◌-◌, [], get_or, set, ap, ◌∙◌}
use Rattle.std.specs.Prelude.{remove}
use Rattle.shared_list.specs.Blocks.{joined}
use Rattle.shared_list.proofs.JoinedLemmas.{take-at, item-at}
use Rattle.shared_list.proofs.list.take.Goals as goal

pub returns-clause-item : goal.returns-clause-item
returns-clause-item g c =
    let blocks = c.args.blocks.now in
    let number = c.block_of-number.result in
    let item = c.in_ok-item.item in
    c.in_ok-item.ensures.item
    ∙ ap (λ start. get_or (get_or blocks number []) (c.args.at - start) item) c.start.ensures
    ∙ item-at blocks c.args.at number item c.block_of-number.ensures c.requires

pub returns-clause-ok : goal.returns-clause-ok
returns-clause-ok g c =
    let blocks = c.args.blocks.now in
    let number = c.block_of-number.result in
    c.forget_if_empty.ensures.same
    ∙ ap (λ new. joined new) c.in_ok-item.ensures.ok
    ∙ ap (λ start. joined (set blocks number (remove (get_or blocks number []) (c.args.at - start)))) c.start.ensures
    ∙ take-at blocks c.args.at number c.block_of-number.ensures c.requires
