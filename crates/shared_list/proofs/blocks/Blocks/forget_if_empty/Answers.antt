-- A block without items goes with its start, and the items stay.
use Rattle.std.proofs.Common.{◌<◌, length, [], ap, sym, ◌∙◌, arith}
use Rattle.std.proofs.lemmas.List.{get_or_read, nil_from_length}
use Rattle.shared_list.specs.Blocks.{joined, starts_from}
use Rattle.shared_list.proofs.JoinedLemmas.{joined-forget}
use Rattle.shared_list.proofs.StartLemmas.{same-length, forget-starts}
use Rattle.shared_list.proofs.blocks.Blocks.forget_if_empty.Goals as goal

pub remove-requires-2 : goal.remove-requires-2
remove-requires-2 g c =
    let inside = c.self.inside in
    omega (arith, c.requires, inside.starts.ok.0, same-length inside.blocks.items inside.starts.items c.self.invariant, ap length c.self.view_is)

pub invariant_of-self : goal.invariant_of-self
invariant_of-self g c =
    let inside = c.self.inside in
    let number = c.args.number in
    let there : number < length inside.blocks.items = omega (arith, c.requires, ap length c.self.view_is) in
    let read = get_or_read inside.blocks.items number c.index.result.now there c.index.ensures [] in
    let empty = sym read ∙ nil_from_length c.index.result.now (omega arith) in
    c.remove-2.ensures.items
    ∙ forget-starts inside.blocks.items inside.starts.items number c.self.invariant there empty
    ∙ ap (λ blocks. starts_from 0 blocks) (sym c.remove.ensures.items)

pub returns-clause-same : goal.returns-clause-same
returns-clause-same g c =
    let inside = c.self.inside in
    let number = c.args.number in
    let there : number < length inside.blocks.items = omega (arith, c.requires, ap length c.self.view_is) in
    let read = get_or_read inside.blocks.items number c.index.result.now there c.index.ensures [] in
    let empty = sym read ∙ nil_from_length c.index.result.now (omega arith) in
    ap (λ blocks. joined blocks) c.remove.ensures.items ∙ joined-forget inside.blocks.items number there empty ∙ ap (λ blocks. joined blocks) c.self.view_is
