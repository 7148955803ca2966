-- In a document that isn't there no term stands.
use Rattle.std.proofs.Common.{ap, sym, ◌∙◌, option_map}
use Rattle.ft_base.specs.Hits.{hit_at, hit_place}
use Rattle.index_cursors.specs.SpanHits.{hits_in}
use Rattle.index_meaning.specs.Documents.{Document, breaks_of}
use Rattle.index_meaning.specs.Postings.{places}
use Rattle.index_versions.specs.Terms.{VersionTerm, first_in}
use Rattle.index_versions.specs.Versions.{term_at}
use Rattle.index_versions.proofs.DocumentLemmas.{none_at}
use Rattle.index_versions.proofs.term_source.TermSource.seek_in.Goals as goal

pub returns-then-not-keep-clause-says : goal.returns-then-not-keep-clause-says
returns-then-not-keep-clause-says c =
    let version = c.self.inside.version.now in
    let word = (term_at c.self.inside.term version).word in
    sym (ap (λ (document : Document). option_map (λ hit. hit.from) (hit_at (hit_place (hits_in (breaks_of document) c.args.span (places word document)) 0)))
    (none_at c.args.doc.0 version (c.keep.ensures.there c.if-not-keep.true)))
    ∙ ap (λ (source : VersionTerm). first_in c.args.doc.0 c.args.span source) c.self.view_is
