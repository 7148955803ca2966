-- The numbers that are kept are the document's terms.
use Rattle.std.proofs.Common.{length, ap, arith}
use Rattle.index_document.specs.Terms.{TermDocument, terms_of, words_of}
use Rattle.index_document.proofs.SoundLemmas.{ids-are-terms}
use Rattle.index_document.proofs.index_document.DocIndex.term_count.Goals as goal

pub returns : goal.returns
returns c =
    let parts = c.self.inside.parts in
    omega (
      arith,
      c.len.ensures,
      parts.ids.ok.0,
      ap length (ids-are-terms parts.leaves parts.ids.items c.self.invariant.terms),
      ap (λ (d : TermDocument). length (terms_of (words_of d.leaves))) c.self.view_is,
    )
