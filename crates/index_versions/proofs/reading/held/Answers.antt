-- A version has a document where it holds one of that number, and that is what it means.
use Rattle.std.proofs.Common.{ap, sym, ◌∙◌}
use Rattle.index_versions.specs.steps.Held.{document_under}
use Rattle.index_versions.proofs.DocumentLemmas.{at_under, has_under}
use Rattle.index_versions.proofs.reading.held.Goals as goal

pub document-requires-clause-there : goal.document-requires-clause-there
document-requires-clause-there c =
    let parts = c.args.parts.now in
    sym (has_under parts.dictionary.given c.args.doc.0 parts.documents) ∙ c.requires.there

pub returns-clause-meant : goal.returns-clause-meant
returns-clause-meant c =
    let parts = c.args.parts.now in
    ap (document_under parts.dictionary.given) c.document.ensures ∙ sym (at_under parts.dictionary.given c.args.doc.0 parts.documents)
