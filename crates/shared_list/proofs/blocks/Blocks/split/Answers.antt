-- Two halves have the items of the block in whose place they come, and the second starts after the first.
use Rattle.std.proofs.Common.{◌≡◌, ◌+◌, ◌/◌, ◌<◌, [], length, set, ap, sym, ◌∙◌, arith}
use Rattle.std.specs.Prelude.{insert, remove}
use Rattle.std.proofs.lemmas.List.{get_or_read, length-set}
use Rattle.std.proofs.lemmas.List.Edits.{length-insert}
use Rattle.shared_list.specs.Blocks.{joined, start_of, starts_from}
use Rattle.shared_list.proofs.JoinedLemmas.{block-run, joined-split}
use Rattle.shared_list.proofs.StartLemmas.{same-length, split-starts, remove-insert}
use Rattle.shared_list.proofs.blocks.Blocks.split.Goals as goal

pub overflow_add-middle : goal.overflow_add-middle
overflow_add-middle g c =
    let inside = c.self.inside in
    let number = c.args.number in
    let there : number < length inside.blocks.items = omega (arith, c.requires.block, ap length c.self.view_is) in
    let block = get_or_read inside.blocks.items number c.index.result.now there c.index.ensures [] in
    let run = block-run inside.blocks.items number there in
    omega (
      arith,
      c.requires.room,
      c.start.ensures,
      c.len-half.ensures,
      run.within,
      ap length block,
      ap (λ blocks. start_of blocks number) c.self.view_is,
      ap (λ blocks. length (joined blocks)) c.self.view_is,
    )

pub insert-requires : goal.insert-requires
insert-requires g c =
    let inside = c.self.inside in
    omega (arith, c.requires.block, inside.starts.ok.0, same-length inside.blocks.items inside.starts.items c.self.invariant, ap length c.self.view_is)

pub invariant_of-self-in-Ok : goal.invariant_of-self-in-Ok
invariant_of-self-in-Ok g c =
    let inside = c.self.inside in
    let number = c.args.number in
    let prefix = c.in_ok-prefix.prefix in
    let there : number < length inside.blocks.items = omega (arith, c.requires.block, ap length c.self.view_is) in
    let halves = c.in_ok-prefix.ensures.0 ∙ get_or_read inside.blocks.items number c.index-2.result.now there c.index-2.ensures [] in
    let half = c.len-half.result / 2 in
    let middle : c.start.result + half ≡ start_of inside.blocks.items number + length prefix =
    omega (arith, c.start.ensures, ap (λ blocks. start_of blocks number) c.self.view_is, c.in_ok-prefix.ensures.1) in
    c.in_ok-insert.ensures.items
    ∙ split-starts inside.blocks.items inside.starts.items number (c.start.result + half) prefix c.in_ok-prefix.back c.self.invariant there halves middle
    ∙ ap (λ blocks. starts_from 0 (set blocks number prefix)) (sym c.in-Ok.ensures.items)

pub remove-requires : goal.remove-requires
remove-requires g c =
    let inside = c.self.inside in
    omega (arith, c.requires.block, c.in_ok-insert.ensures.len, inside.starts.ok.0, same-length inside.blocks.items inside.starts.items c.self.invariant, ap length c.self.view_is)

pub invariant_of-self-in-Err-1 : goal.invariant_of-self-in-Err-1
invariant_of-self-in-Err-1 g c =
    let inside = c.self.inside in
    let number = c.args.number in
    let same = same-length inside.blocks.items inside.starts.items c.self.invariant in
    c.remove.ensures.items
    ∙ ap (λ starts. remove starts (number + 1)) c.in_ok-insert.ensures.items
    ∙ remove-insert inside.starts.items (number + 1) (c.start.result + c.len-half.result / 2) (omega (arith, c.requires.block, same, ap length c.self.view_is))
    ∙ c.self.invariant
    ∙ ap (λ blocks. starts_from 0 blocks) (sym c.in-Err.ensures.items)

pub returns-in-Ok-clause-same : goal.returns-in-Ok-clause-same
returns-in-Ok-clause-same g c =
    let inside = c.self.inside in
    let number = c.args.number in
    let prefix = c.in_ok-prefix.prefix in
    let there : number < length inside.blocks.items = omega (arith, c.requires.block, ap length c.self.view_is) in
    let halves = c.in_ok-prefix.ensures.0 ∙ get_or_read inside.blocks.items number c.index-2.result.now there c.index-2.ensures [] in
    ap (λ blocks. joined (set blocks number prefix)) c.in-Ok.ensures.items
    ∙ joined-split inside.blocks.items number prefix c.in_ok-prefix.back there halves
    ∙ ap (λ blocks. joined blocks) c.self.view_is

pub returns-in-Ok-clause-more : goal.returns-in-Ok-clause-more
returns-in-Ok-clause-more g c =
    let inside = c.self.inside in
    let number = c.args.number in
    let prefix = c.in_ok-prefix.prefix in
    let back = c.in_ok-prefix.back in
    omega (
      arith,
      ap (λ blocks. length (set blocks number prefix)) c.in-Ok.ensures.items,
      length-set (insert inside.blocks.items (number + 1) back) number prefix,
      length-insert inside.blocks.items (number + 1) back (omega (arith, c.requires.block, ap length c.self.view_is)),
      ap length c.self.view_is,
    )
