-- A block with another item in the place of one is as long as before, so that each block starts where it did.
use Rattle.std.proofs.Common.{◌≡◌, ◌<◌, [], length, get_or, ap, sym, ◌∙◌, arith}
use Rattle.std.proofs.lemmas.List.{get_or_read, length-set}
use Rattle.shared_list.proofs.StartLemmas.{starts-same}
use Rattle.shared_list.proofs.blocks.Blocks.replace.Goals as goal

pub invariant_of-self-2 : goal.invariant_of-self-2
invariant_of-self-2 g c =
    let inside = c.self.inside in
    let number = c.args.number in
    let old = c.index_mut.result.now in
    let there : number < length inside.blocks.items = omega (arith, c.requires.block, ap length c.self.view_is) in
    let read : old ≡ get_or inside.blocks.items number [] = get_or_read inside.blocks.items number old there c.index_mut.ensures.value [] in
    let same : length c.replace.new.self ≡ length (get_or inside.blocks.items number []) =
    ap length c.in_ok-replace.ensures.ok ∙ length-set old c.args.at c.args.item ∙ ap length read in
    c.self.invariant ∙ sym (starts-same 0 inside.blocks.items number c.replace.new.self there same)
