-- A block that got one item shorter moves the starts after it to the front.
use Rattle.std.proofs.Common.{◌≡◌, ◌<◌, ◌+◌, [], length, get_or, ap, arith}
use Rattle.std.proofs.lemmas.List.{get_or_read}
use Rattle.std.proofs.lemmas.List.Edits.{length-remove}
use Rattle.shared_list.proofs.StartLemmas.{same-length, starts-beyond, take-starts}
use Rattle.shared_list.proofs.blocks.Blocks.take.Goals as goal

pub lower-requires : goal.lower-requires
lower-requires g c = λ k from there.
    let inside = c.self.inside in
    let number = c.args.number in
    let same = same-length inside.blocks.items inside.starts.items c.self.invariant in
    let some : 0 < length (get_or inside.blocks.items number []) = omega (arith, c.requires.place, ap (λ blocks. length (get_or blocks number [])) c.self.view_is) in
    omega (arith, ap (λ starts. get_or starts k 0) c.self.invariant, starts-beyond 0 inside.blocks.items number k (omega (arith, same, there)) (omega (arith, from)) some)

pub invariant_of-self-2 : goal.invariant_of-self-2
invariant_of-self-2 g c =
    let inside = c.self.inside in
    let number = c.args.number in
    let old = c.index_mut.result.now in
    let there : number < length inside.blocks.items = omega (arith, c.requires.block, ap length c.self.view_is) in
    let read : old ≡ get_or inside.blocks.items number [] = get_or_read inside.blocks.items number old there c.index_mut.ensures.value [] in
    let within : c.args.at < length old = omega (arith, c.requires.place, ap length read, ap (λ blocks. length (get_or blocks number [])) c.self.view_is) in
    let shorter : length (get_or inside.blocks.items number []) ≡ length c.take.new.self + 1 =
    omega (arith, ap length c.in_ok-item.ensures.ok, length-remove old c.args.at within, ap length read) in
    take-starts inside.blocks.items number c.take.new.self inside.starts.items c.lower.new.starts.items c.self.invariant there shorter c.lower.ensures
