-- The number of the leaf that stands at the place.
use Rattle.std.proofs.Common.{◌<◌, length, get_or, ap, ◌∙◌, arith}
use Rattle.index_document.specs.Terms.{TermDocument, leaf_ids}
use Rattle.index_document.proofs.LeafLemmas.{id-read}
use Rattle.index_document.proofs.index_document.DocIndex.leaf.Goals as goal

pub get-requires : goal.get-requires
get-requires c = omega (arith, c.requires, ap (λ (d : TermDocument). length d.leaves) c.self.view_is)

pub returns : goal.returns
returns c =
    let leaves = c.self.inside.parts.leaves.leaves in
    let there : c.args.number < length leaves = omega (arith, c.requires, ap (λ (d : TermDocument). length d.leaves) c.self.view_is) in
    c.leaf.ensures ∙ id-read leaves c.args.number c.get.result.now there c.get.ensures ∙ ap (λ (d : TermDocument). get_or (leaf_ids d.leaves) c.args.number 0) c.self.view_is
