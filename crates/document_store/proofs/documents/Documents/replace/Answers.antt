-- Another document stands beside the name.
use Rattle.std.proofs.Common.{◌∙◌, ap, arith, length, sym}
use Rattle.std.specs.List.{zip}
use Rattle.indexmap.specs.IndexMap.{set_value_at}
use Rattle.document_store.proofs.DocumentsLemmas.{length-beside, set-beside}
use Rattle.document_store.proofs.documents.Documents.replace.Goals as goal

pub replace-requires : goal.replace-requires
replace-requires c =
    let long = sym (length-beside c.self.inside.names c.self.inside.loaded c.self.invariant) ∙ ap length c.self.view_is in
    (omega arith, omega (arith, long, c.self.invariant, c.requires))

pub returns-clause-ok : goal.returns-clause-ok
returns-clause-ok c =
    ap (zip c.self.inside.names) c.in_ok-replace.ensures.ok
    ∙ (set-beside c.self.inside.names c.self.inside.loaded c.args.at c.args.document ∙ ap (λ es. set_value_at es c.args.at c.args.document) c.self.view_is)
