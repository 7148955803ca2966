-- A block that got one item longer moves the starts after it.
use Rattle.std.proofs.Common.{◌≡◌, ◌<◌, ◌≤◌, ◌+◌, [], length, get_or, ap, arith}
use Rattle.std.proofs.lemmas.List.{get_or_read}
use Rattle.std.proofs.lemmas.List.Edits.{length-insert}
use Rattle.shared_list.specs.Blocks.{joined}
use Rattle.shared_list.proofs.StartLemmas.{same-length, starts-within, put-starts}
use Rattle.shared_list.proofs.blocks.Blocks.put.Goals as goal

pub raise-requires : goal.raise-requires
raise-requires g c = λ k there.
    let inside = c.self.inside in
    let same = same-length inside.blocks.items inside.starts.items c.self.invariant in
    omega (arith, c.requires.room, ap (λ blocks. length (joined blocks)) c.self.view_is, ap (λ starts. get_or starts k 0) c.self.invariant, starts-within 0 inside.blocks.items k (omega (arith, same, there)))

pub invariant_of-self-2 : goal.invariant_of-self-2
invariant_of-self-2 g c =
    let inside = c.self.inside in
    let number = c.args.number in
    let old = c.index_mut.result.now in
    let there : number < length inside.blocks.items = omega (arith, c.requires.block, ap length c.self.view_is) in
    let read : old ≡ get_or inside.blocks.items number [] = get_or_read inside.blocks.items number old there c.index_mut.ensures.value [] in
    let within : c.args.at ≤ length old = omega (arith, c.requires.place, ap length read, ap (λ blocks. length (get_or blocks number [])) c.self.view_is) in
    let longer : length c.put.new.self ≡ length (get_or inside.blocks.items number []) + 1 =
    omega (arith, ap length c.in_ok-put.ensures.ok, length-insert old c.args.at c.args.item within, ap length read) in
    put-starts inside.blocks.items number c.put.new.self inside.starts.items c.raise.new.starts.items c.self.invariant there longer c.raise.ensures
