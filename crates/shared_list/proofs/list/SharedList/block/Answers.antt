-- A block's items stand in the list from the block's start on.
use Rattle.std.proofs.Common.{◌<◌, length, subst, sym, arith}
use Rattle.shared_list.specs.Blocks.{joined, start_of, IsRun}
use Rattle.shared_list.proofs.JoinedLemmas.{block-run}
use Rattle.shared_list.proofs.list.SharedList.block.Goals as goal

pub returns : goal.returns
returns g c =
    let blocks = c.self.inside.blocks in
    let number = c.args.number in
    let there : number < length blocks = omega arith in
    subst (λ list. IsRun list c.start.result c.items.result.now) c.self.view_is
    (subst (λ start. IsRun (joined blocks) start c.items.result.now) (sym c.start.ensures)
    (subst (λ items. IsRun (joined blocks) (start_of blocks number) items) (sym c.items.ensures) (block-run blocks number there)))
