-- The item stands in the block of its place.
use Rattle.std.proofs.Common.{◌≡◌, ◌<◌, ◌/◌, ◌%◌, [], length, get_or, ap, ◌∙◌, arith}
use Rattle.std.proofs.lemmas.List.{get_or_read}
use Rattle.shared_list.specs.Blocks.{joined}
use Rattle.shared_vector.proofs.FilledLemmas.{number-filled, place-filled, item-filled}
use Rattle.shared_vector.proofs.vector.SharedVector.get.Goals as goal

pub index-requires : goal.index-requires
index-requires g c =
    let blocks = c.self.inside.blocks.items in
    omega (arith, number-filled blocks c.self.invariant.filled c.args.at (omega (arith, c.requires, ap length c.self.view_is)))

pub offset_bounds-as_slice-at : goal.offset_bounds-as_slice-at
offset_bounds-as_slice-at g c =
    let blocks = c.self.inside.blocks.items in
    let number = c.args.at / 64 in
    let within : c.args.at < length (joined blocks) = omega (arith, c.requires, ap length c.self.view_is) in
    let read : c.index.result.now ≡ get_or blocks number [] =
    get_or_read blocks number c.index.result.now (number-filled blocks c.self.invariant.filled c.args.at within) c.index.ensures [] in
    omega (arith, place-filled blocks c.self.invariant.filled c.args.at within, ap length (c.as_slice.ensures ∙ read))

pub bounds-as_slice-at : goal.bounds-as_slice-at
bounds-as_slice-at g c =
    let blocks = c.self.inside.blocks.items in
    let number = c.args.at / 64 in
    let within : c.args.at < length (joined blocks) = omega (arith, c.requires, ap length c.self.view_is) in
    let read : c.index.result.now ≡ get_or blocks number [] =
    get_or_read blocks number c.index.result.now (number-filled blocks c.self.invariant.filled c.args.at within) c.index.ensures [] in
    omega (arith, place-filled blocks c.self.invariant.filled c.args.at within, ap length (c.as_slice.ensures ∙ read))

pub returns : goal.returns
returns g c =
    let blocks = c.self.inside.blocks.items in
    let at = c.args.at in
    let item = c.index-as_slice-at.result in
    let within : at < length (joined blocks) = omega (arith, c.requires, ap length c.self.view_is) in
    let read : c.index.result.now ≡ get_or blocks (at / 64) [] =
    get_or_read blocks (at / 64) c.index.result.now (number-filled blocks c.self.invariant.filled at within) c.index.ensures [] in
    c.index-as_slice-at.is
    ∙ ap (λ items. get_or items (at % 64) item) (c.as_slice.ensures ∙ read)
    ∙ item-filled blocks c.self.invariant.filled at item within
    ∙ ap (λ items. get_or items at item) c.self.view_is
