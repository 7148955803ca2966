-- The breaks that are held are those of the document.
use Rattle.std.proofs.Common.{ap, ◌∙◌}
use Rattle.index_meaning.specs.Documents.{breaks_of, document_at}
use Rattle.index_versions.proofs.version.Version.places.Goals as goal

pub returns-clause-breaks : goal.returns-clause-breaks
returns-clause-breaks c =
    c.new.ensures ∙ c.breaks.ensures ∙ ap breaks_of (c.held-held.ensures.meant ∙ ap (document_at c.args.doc.0) c.self.view_is)
