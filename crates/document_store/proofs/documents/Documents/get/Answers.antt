-- A look-up finds the document that stands beside the name.
use Rattle.std.proofs.Common.{◌∙◌, ap, sym}
use Rattle.std.specs.Map.{lookup}
use Rattle.std.specs.Str.{bytes_eq}
use Rattle.document_store.proofs.DocumentsLemmas.{found-beside, nowhere-beside}
use Rattle.document_store.proofs.documents.Documents.get.Goals as goal

pub returns-in-Some : goal.returns-in-Some
returns-in-Some c =
    found-beside (bytes_eq c.args.name.now) c.self.inside.names c.self.inside.loaded c.in-Some.at c.get.result.now c.self.invariant
    (sym c.position.ensures ∙ c.in-Some.is) c.get.ensures
    ∙ ap (lookup (bytes_eq c.args.name.now)) c.self.view_is

pub returns-in-None : goal.returns-in-None
returns-in-None c =
    nowhere-beside (bytes_eq c.args.name.now) c.self.inside.names c.self.inside.loaded (sym c.position.ensures ∙ c.in-None.is)
    ∙ ap (lookup (bytes_eq c.args.name.now)) c.self.view_is
