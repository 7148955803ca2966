-- The item comes after those of the last block.
use Rattle.std.proofs.Common.{◌≡◌, ◌+◌, ◌-◌, ◌∷◌, ◌++◌, [], length, get_or, set, ap, ◌∙◌, arith}
use Rattle.std.proofs.lemmas.List.{get_or_read}
use Rattle.shared_list.specs.Blocks.{joined}
use Rattle.shared_vector.proofs.FilledLemmas.{push-last}
use Rattle.shared_vector.proofs.vector.push_item.Goals as goal

pub returns-then-len-lt-BLOCK-clause-ok : goal.returns-then-len-lt-BLOCK-clause-ok
returns-then-len-lt-BLOCK-clause-ok g c =
    let blocks = c.args.blocks.now.items in
    let last = c.len-count.result - 1 in
    let old = c.index_mut.result.now in
    let count : last + 1 ≡ length blocks = omega (arith, c.len-count.ensures, c.if-count-gt0.true) in
    let read : old ≡ get_or blocks last [] = get_or_read blocks last old (omega (arith, count)) c.index_mut.ensures.value [] in
    ap (λ block. joined (set blocks last block)) (c.in_ok-push.ensures.ok ∙ ap (λ items. items ++ c.args.item ∷ []) read) ∙ push-last blocks last c.args.item count
