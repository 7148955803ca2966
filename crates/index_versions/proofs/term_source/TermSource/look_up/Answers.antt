-- In a document that isn't there no term stands.
use Rattle.std.proofs.Common.{ap, sym, ◌∙◌, length}
use Rattle.std.specs.Prelude.{nat_lt}
use Rattle.index_meaning.specs.Documents.{Document}
use Rattle.index_meaning.specs.Postings.{places}
use Rattle.index_versions.specs.Terms.{VersionTerm}
use Rattle.index_versions.specs.Versions.{stands_in, term_at}
use Rattle.index_versions.proofs.DocumentLemmas.{none_at}
use Rattle.index_versions.proofs.term_source.TermSource.look_up.Goals as goal

pub returns-then-not-keep-clause-says : goal.returns-then-not-keep-clause-says
returns-then-not-keep-clause-says c =
    let version = c.self.inside.version.now in
    let word = (term_at c.self.inside.term version).word in
    sym (ap (λ (document : Document). nat_lt 0 (length (places word document)))
    (none_at c.args.doc.0 version (c.keep.ensures.there c.if-not-keep.true)))
    ∙ ap (λ (source : VersionTerm). stands_in source.term c.args.doc.0 source.version) c.self.view_is
