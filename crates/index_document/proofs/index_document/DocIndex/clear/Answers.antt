-- There is a row for each word.
use Rattle.std.proofs.Common.{◌+◌, length, ap, ◌∙◌}
use Rattle.index_document.specs.Terms.{TermDocument, words_of}
use Rattle.index_document.proofs.RowCounts.{rows-count}
use Rattle.index_document.proofs.index_document.DocIndex.clear.Goals as goal

pub returns : goal.returns
returns g c =
    let parts = c.self.inside.parts in
    c.clear.ensures
    ∙ ap (λ n. c.args.rows.now + n) (rows-count parts c.self.invariant ∙ ap (λ (d : TermDocument). length (words_of d.leaves)) c.self.view_is)
