-- In a document that isn't there no term stands.
use Rattle.std.proofs.Common.{ap, sym, ◌∙◌, length}
use Rattle.std.specs.Prelude.{nat_lt}
use Rattle.index_meaning.specs.Documents.{Document}
use Rattle.index_meaning.specs.Postings.{places}
use Rattle.index_versions.specs.Versions.{term_at}
use Rattle.index_versions.proofs.DocumentLemmas.{none_at}
use Rattle.index_versions.proofs.version.Version.has_term.Goals as goal

pub returns-then-not-has_doc : goal.returns-then-not-has_doc
returns-then-not-has_doc c =
    let version = c.args.self.now in
    sym (ap (λ (document : Document). nat_lt 0 (length (places (term_at c.args.term version).word document)))
    (none_at c.args.doc.0 version (sym c.has_doc.ensures.there ∙ c.if-not-has_doc.true)))
