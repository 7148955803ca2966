-- The number that is kept is how many items stand before the block.
use Rattle.std.proofs.Common.{length, ap, ◌∙◌, arith}
use Rattle.shared_list.specs.Blocks.{start_of}
use Rattle.shared_list.proofs.StartLemmas.{same-length, start-read}
use Rattle.shared_list.proofs.blocks.Blocks.start.Goals as goal

pub index-requires : goal.index-requires
index-requires g c =
    let inside = c.self.inside in
    omega (arith, c.requires, inside.starts.ok.0, same-length inside.blocks.items inside.starts.items c.self.invariant, ap length c.self.view_is)

pub returns : goal.returns
returns g c =
    let inside = c.self.inside in
    start-read inside.blocks.items inside.starts.items c.args.number c.index.result.now c.self.invariant (omega (arith, c.requires, ap length c.self.view_is)) c.index.ensures
    ∙ ap (λ blocks. start_of blocks c.args.number) c.self.view_is
