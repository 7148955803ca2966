-- The version counts the documents of the source's term.
use Rattle.std.proofs.Common.{ap, ◌∙◌}
use Rattle.index_meaning.specs.Index.{document_count}
use Rattle.text_forms.specs.Forms.{key_of}
use Rattle.index_versions.specs.Terms.{VersionTerm}
use Rattle.index_versions.specs.Versions.{term_at}
use Rattle.index_versions.proofs.term_source.TermSource.document_count.Goals as goal

pub returns : goal.returns
returns c = c.document_count.ensures ∙ ap (λ (source : VersionTerm). document_count key_of (term_at source.term source.version) source.version) c.self.view_is
