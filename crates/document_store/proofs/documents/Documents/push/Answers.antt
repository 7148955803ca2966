-- The name is new, and stands beside the document after the others.
use Rattle.std.proofs.Common.{◌∙◌, ◌++◌, ◌∷◌, [], ap, ap₂}
use Rattle.std.specs.List.{zip}
use Rattle.std.specs.Map.{lookup}
use Rattle.std.specs.Str.{bytes_eq}
use Rattle.document_store.proofs.DocumentsLemmas.{more-beside, none-among}
use Rattle.document_store.proofs.documents.Documents.push.Goals as goal

pub push-requires : goal.push-requires
push-requires c =
    none-among (bytes_eq c.args.name) c.self.inside.names c.self.inside.loaded c.self.invariant
    (ap (lookup (bytes_eq c.args.name)) c.self.view_is ∙ c.requires)

pub returns-in-Ok-push-clause-ok : goal.returns-in-Ok-push-clause-ok
returns-in-Ok-push-clause-ok c =
    ap₂ zip c.in-Ok-push.ensures.ok c.in-Ok.ensures
    ∙ (more-beside c.self.inside.names c.self.inside.loaded c.args.name c.args.document c.self.invariant
    ∙ ap (λ es. es ++ (c.args.name, c.args.document) ∷ []) c.self.view_is)
