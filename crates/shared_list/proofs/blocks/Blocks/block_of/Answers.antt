-- Starts are those of the blocks, so that the last start before a place is that of its block.
use Rattle.std.proofs.Common.{length, subst, ap, arith}
use Rattle.shared_list.specs.Blocks.{IsBlockOf}
use Rattle.shared_list.proofs.StartLemmas.{same-length, first-start, block-of}
use Rattle.shared_list.proofs.blocks.Blocks.block_of.Goals as goal

pub last_at_most-requires-clause-some : goal.last_at_most-requires-clause-some
last_at_most-requires-clause-some g c =
    let inside = c.self.inside in
    omega (arith, c.requires, same-length inside.blocks.items inside.starts.items c.self.invariant, ap length c.self.view_is)

pub last_at_most-requires-clause-first : goal.last_at_most-requires-clause-first
last_at_most-requires-clause-first g c =
    let inside = c.self.inside in omega (arith, first-start inside.blocks.items inside.starts.items c.self.invariant)

pub returns : goal.returns
returns g c =
    let inside = c.self.inside in
    let found = c.last_at_most.ensures in
    subst (λ blocks. IsBlockOf blocks c.args.at c.last_at_most.result) c.self.view_is
    (block-of inside.blocks.items inside.starts.items c.args.at c.last_at_most.result c.self.invariant found.there found.from found.to)
