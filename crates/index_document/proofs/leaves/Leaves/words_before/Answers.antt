-- What is kept for the leaf at the place is how many words stand before it.
use Rattle.std.proofs.Common.{◌<◌, length, get_or, take, ap, ◌∙◌, arith}
use Rattle.index_document.specs.Terms.{TermDocument, leaf_ids, words_of}
use Rattle.index_document.proofs.DirectoryLemmas.{before-there}
use Rattle.index_document.proofs.LeafLemmas.{differs, id-read, has-id}
use Rattle.index_document.proofs.leaves.Leaves.words_before.Goals as goal

pub returns : goal.returns
returns c =
    let leaves = c.self.inside.leaves in
    let at = c.args.at in
    let leaves_are = ap (λ (d : TermDocument). d.leaves) c.self.view_is in
    let there : at < length leaves = differs at (length leaves) (omega (arith, c.requires, ap length leaves_are)) (λ same. c.if-at-len.false (omega (arith, same, c.len.ensures))) in
    let id = c.leaf.ensures ∙ id-read leaves at c.get.result.now there c.get.ensures in
    c.number_at.ensures ∙ ap (λ i. get_or c.self.inside.befores.items i 0) id
    ∙ c.self.invariant.befores_are (get_or (leaf_ids leaves) at 0) (has-id leaves at there)
    ∙ before-there leaves at there c.self.invariant.distinct
    ∙ ap (λ ls. length (words_of (take at ls))) leaves_are
