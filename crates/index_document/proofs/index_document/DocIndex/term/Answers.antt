-- The numbers that are kept are the document's terms.
use Rattle.std.proofs.Common.{◌<◌, length, get_or, ap, ◌∙◌, arith}
use Rattle.std.proofs.lemmas.List.{get_or_read}
use Rattle.index_document.specs.Terms.{TermDocument, terms_of, words_of}
use Rattle.index_document.proofs.SoundLemmas.{ids-are-terms}
use Rattle.index_document.proofs.index_document.DocIndex.term.Goals as goal

pub index-requires : goal.index-requires
index-requires c =
    let parts = c.self.inside.parts in
    omega (
      arith,
      c.requires,
      parts.ids.ok.0,
      ap length (ids-are-terms parts.leaves parts.ids.items c.self.invariant.terms),
      ap (λ (d : TermDocument). length (terms_of (words_of d.leaves))) c.self.view_is,
    )

pub returns : goal.returns
returns c =
    let parts = c.self.inside.parts in
    let number = c.args.number in
    let terms = ids-are-terms parts.leaves parts.ids.items c.self.invariant.terms in
    let there : number < length parts.ids.items = omega (arith, c.requires, ap length terms, ap (λ (d : TermDocument). length (terms_of (words_of d.leaves))) c.self.view_is) in
    get_or_read parts.ids.items number c.index.result.now there c.index.ensures 0 ∙ ap (λ xs. get_or xs number 0) terms
    ∙ ap (λ (d : TermDocument). get_or (terms_of (words_of d.leaves)) number 0) c.self.view_is
