-- There are as many documents as names, and no name stands twice.
use Rattle.std.proofs.Common.{◌∙◌, ap, subst, sym, length}
use Rattle.std.specs.List.{IsDistinct}
use Rattle.std.specs.Map.{keys_of}
use Rattle.std.specs.Str.{bytes_eq}
use Rattle.std.proofs.lemmas.Map.Made.{keys_of-zip}
use Rattle.document_store.proofs.DocumentsLemmas.{length-beside}
use Rattle.document_store.proofs.documents.Documents.len.Goals as goal

pub returns-clause-len : goal.returns-clause-len
returns-clause-len c =
    ap length c.as_slice.ensures.names
    ∙ (sym (length-beside c.self.inside.names c.self.inside.loaded c.self.invariant) ∙ ap length c.self.view_is)

pub returns-clause-distinct : goal.returns-clause-distinct
returns-clause-distinct c =
    subst (IsDistinct bytes_eq)
    (sym (keys_of-zip c.self.inside.names c.self.inside.loaded c.self.invariant) ∙ ap keys_of c.self.view_is) c.as_slice.ensures.distinct
