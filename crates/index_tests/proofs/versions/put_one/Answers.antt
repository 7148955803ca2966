-- A document that is not there has no leaf.
use Rattle.std.proofs.Common.{ap, sym, ◌∙◌}
use Rattle.index_meaning.specs.Documents.{has_leaf}
use Rattle.index_versions.proofs.DocumentLemmas.{none_at}
use Rattle.index_tests.proofs.versions.put_one.Goals as goal

pub put_leaf-requires-clause-new : goal.put_leaf-requires-clause-new
put_leaf-requires-clause-new g c =
    ap (has_leaf 4) (none_at c.args.doc.0 c.args.version.now (sym c.has_doc.ensures.there ∙ c.if-has_doc.false))
