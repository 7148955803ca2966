-- The breaks that are held are those of the document.
use Rattle.std.proofs.Common.{ap, ◌∙◌}
use Rattle.index_meaning.specs.Documents.{breaks_of, document_at}
use Rattle.index_versions.proofs.version.Version.starts.Goals as goal

pub returns : goal.returns
returns c = c.breaks.ensures ∙ ap breaks_of (c.held.ensures.meant ∙ ap (document_at c.args.doc.0) c.self.view_is)
