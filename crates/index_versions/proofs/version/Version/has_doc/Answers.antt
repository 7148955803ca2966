-- The documents that are held have the numbers of those that they mean.
use Rattle.std.proofs.Common.{List, ap, sym, ◌∙◌}
use Rattle.ft_base.specs.Places.{is_ascending}
use Rattle.index_meaning.specs.Documents.{Numbered, document_ids, has_document}
use Rattle.index_versions.proofs.DocumentLemmas.{has_under, ids_under}
use Rattle.index_versions.proofs.version.Version.has_doc.Goals as goal

pub returns-clause-there : goal.returns-clause-there
returns-clause-there c =
    let parts = c.self.inside.parts in
    c.has_document.ensures ∙ sym (has_under parts.dictionary.given c.args.doc.0 parts.documents) ∙ ap (has_document c.args.doc.0) c.self.view_is

pub returns-clause-ordered : goal.returns-clause-ordered
returns-clause-ordered c =
    let parts = c.self.inside.parts in
    ap (λ (all : List Numbered). is_ascending (document_ids all)) (sym c.self.view_is)
    ∙ ap is_ascending (ids_under parts.dictionary.given parts.documents)
    ∙ c.self.invariant.ascending
