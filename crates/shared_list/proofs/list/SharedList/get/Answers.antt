-- The item stands in its block, so far after the block's start.
use Rattle.std.proofs.Common.{◌<◌, ◌-◌, [], length, get_or, ap, ◌∙◌, arith}
use Rattle.shared_list.specs.Blocks.{joined}
use Rattle.shared_list.proofs.JoinedLemmas.{item-at}
use Rattle.shared_list.proofs.list.SharedList.get.Goals as goal

pub returns : goal.returns
returns g c =
    let blocks = c.self.inside.blocks in
    let number = c.block_near-number.result in
    let at = c.args.at in
    let item = c.index-items-at.result in
    let within : at < length (joined blocks) = omega (arith, c.requires, ap length c.self.view_is) in
    c.index-items-at.is
    ∙ ap (λ items. get_or items (at - c.start.result) item) c.items.ensures
    ∙ ap (λ start. get_or (get_or blocks number []) (at - start) item) c.start.ensures
    ∙ item-at blocks at number item c.block_near-number.ensures within
    ∙ ap (λ items. get_or items at item) c.self.view_is
