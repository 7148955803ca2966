-- The item comes into the block of its place, which stays as long as it was.
use Rattle.std.proofs.Common.{◌≡◌, ◌<◌, ◌/◌, ◌%◌, [], length, get_or, set, ap, sym, ◌∙◌, arith}
use Rattle.std.proofs.lemmas.List.{get_or_read, length-set}
use Rattle.shared_list.specs.Blocks.{joined}
use Rattle.shared_vector.proofs.FilledLemmas.{number-filled, place-filled, put-filled, set-filled}
use Rattle.shared_vector.proofs.vector.SharedVector.put.Goals as goal

pub index_mut-requires : goal.index_mut-requires
index_mut-requires g c =
    let blocks = c.self.inside.blocks.items in
    omega (arith, number-filled blocks c.self.invariant.filled c.args.at (omega (arith, c.requires, ap length c.self.view_is)))

pub put-requires : goal.put-requires
put-requires g c =
    let blocks = c.self.inside.blocks.items in
    let number = c.args.at / 64 in
    let old = c.index_mut.result.now in
    let within : c.args.at < length (joined blocks) = omega (arith, c.requires, ap length c.self.view_is) in
    let read : old ≡ get_or blocks number [] =
    get_or_read blocks number old (number-filled blocks c.self.invariant.filled c.args.at within) c.index_mut.ensures.value [] in
    omega (arith, place-filled blocks c.self.invariant.filled c.args.at within, ap length read)

pub invariant_of-self-2 : goal.invariant_of-self-2
invariant_of-self-2 g c =
    let blocks = c.self.inside.blocks.items in
    let at = c.args.at in
    let number = at / 64 in
    let old = c.index_mut.result.now in
    let within : at < length (joined blocks) = omega (arith, c.requires, ap length c.self.view_is) in
    let read : old ≡ get_or blocks number [] = get_or_read blocks number old (number-filled blocks c.self.invariant.filled at within) c.index_mut.ensures.value [] in
    let put : c.put.new.self ≡ set (get_or blocks number []) (at % 64) c.args.item = c.in_ok-put.ensures.ok ∙ ap (λ items. set items (at % 64) c.args.item) read in
    let same : length c.put.new.self ≡ length (get_or blocks number []) = ap length put ∙ length-set (get_or blocks number []) (at % 64) c.args.item in
    record {
      filled = set-filled blocks c.self.invariant.filled number c.put.new.self same;
      counted = c.self.invariant.counted ∙ sym (length-set (joined blocks) at c.args.item) ∙ ap length (sym (put-filled blocks c.self.invariant.filled at c.args.item within))
          ∙ ap (λ block. length (joined (set blocks number block))) (sym put);
    }

pub returns-clause-ok : goal.returns-clause-ok
returns-clause-ok g c =
    let blocks = c.self.inside.blocks.items in
    let at = c.args.at in
    let number = at / 64 in
    let old = c.index_mut.result.now in
    let within : at < length (joined blocks) = omega (arith, c.requires, ap length c.self.view_is) in
    let read : old ≡ get_or blocks number [] = get_or_read blocks number old (number-filled blocks c.self.invariant.filled at within) c.index_mut.ensures.value [] in
    let put : c.put.new.self ≡ set (get_or blocks number []) (at % 64) c.args.item = c.in_ok-put.ensures.ok ∙ ap (λ items. set items (at % 64) c.args.item) read in
    ap (λ block. joined (set blocks number block)) put ∙ put-filled blocks c.self.invariant.filled at c.args.item within
    ∙ ap (λ items. set items at c.args.item) c.self.view_is
