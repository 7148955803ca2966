-- As all numbers are different, each is none of those before it.
use Rattle.std.proofs.Common.{◌<◌, List, length, get_or, ap, ◌∙◌, arith}
use Rattle.index_document.specs.Terms.{Leaf, TermDocument, has, leaf_ids}
use Rattle.index_document.proofs.LeafLemmas.{next-apart}
use Rattle.index_document.proofs.leaves.Leaves.of.Goals as goal

pub with_last-requires : goal.with_last-requires
with_last-requires c =
    let leaves = c.args.leaves.now.items in
    let k = c.loop-leaf.leaf-index in
    let item = c.leaf-item.result in
    let same = c.deref-leaf-items.ensures.value in
    let there : k < length leaves = omega (arith, c.loop-leaf-test.true, ap length same) in
    ap (λ (d : TermDocument). has item.id (leaf_ids d.leaves)) c.loop-leaf.invariant
    ∙ next-apart leaves k item there (c.leaf-item.is ∙ ap (λ (ls : List Leaf). get_or ls k item) same) c.requires
