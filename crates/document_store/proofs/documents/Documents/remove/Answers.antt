-- The name and its document go from one place.
use Rattle.std.proofs.Common.{◌∙◌, ap, ap₂, length, sym}
use Rattle.std.specs.List.{zip}
use Rattle.std.specs.Map.{remove_entry}
use Rattle.std.specs.Str.{bytes_eq}
use Rattle.document_store.proofs.DocumentsLemmas.{fewer-beside, kept-beside, removed-beside}
use Rattle.document_store.proofs.documents.Documents.remove.Goals as goal

pub returns-in_default-clause-ok : goal.returns-in_default-clause-ok
returns-in_default-clause-ok c =
    sym c.self.view_is
    ∙ (kept-beside (bytes_eq c.args.name.now) c.self.inside.names c.self.inside.loaded (sym c.position.ensures ∙ c.in_default.is)
    ∙ ap (remove_entry (bytes_eq c.args.name.now)) c.self.view_is)

pub invariant_of-self : goal.invariant_of-self
invariant_of-self c =
    ap length c.in_ok-loaded.ensures
    ∙ (fewer-beside c.self.inside.names c.self.inside.loaded c.in-Some.at c.self.invariant ∙ sym (ap length c.in-Ok.ensures.ok))

pub returns-in-Ok-clause-ok : goal.returns-in-Ok-clause-ok
returns-in-Ok-clause-ok c =
    ap₂ zip c.in-Ok.ensures.ok c.in_ok-loaded.ensures
    ∙ (removed-beside (bytes_eq c.args.name.now) c.self.inside.names c.self.inside.loaded c.in-Some.at c.self.invariant (sym c.position.ensures ∙ c.in-Some.is)
    ∙ ap (remove_entry (bytes_eq c.args.name.now)) c.self.view_is)
