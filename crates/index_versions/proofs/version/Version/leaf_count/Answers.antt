-- A document has as many leaves as it means.
use Rattle.std.proofs.Common.{length, ap, ◌∙◌}
use Rattle.index_document.specs.Terms.{TermDocument}
use Rattle.index_meaning.specs.Documents.{document_at}
use Rattle.index_versions.proofs.PlacesLemmas.{leaves_are}
use Rattle.index_versions.proofs.version.Version.leaf_count.Goals as goal

pub returns : goal.returns
returns c =
    let parts = c.self.inside.parts in
    let document = c.held.ensures.meant ∙ ap (document_at c.args.doc.0) c.self.view_is in
    c.leaf_count.ensures.count
    ∙ ap (λ (index : TermDocument). length index.leaves) c.index.ensures
    ∙ leaves_are parts.dictionary.given c.held.result.now (document_at c.args.doc.0 c.args.self.now) document
