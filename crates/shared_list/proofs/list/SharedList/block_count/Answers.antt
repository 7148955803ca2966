-- Items stand in some block.
use Rattle.std.proofs.Common.{◌<◌, List, [], ◌∷◌, length, ap, arith}
use Rattle.shared_list.specs.Blocks.{joined}
use Rattle.shared_list.proofs.list.SharedList.block_count.Goals as goal

some-block : {T : Type 0} (blocks : List (List T)) → 0 < length (joined blocks) → 0 < length blocks
some-block [] items = items
some-block (block ∷ rest) items = omega arith

pub returns : goal.returns
returns g c items =
    omega (arith, some-block c.self.inside.blocks (omega (arith, items, ap length c.self.view_is)), c.count.ensures)
