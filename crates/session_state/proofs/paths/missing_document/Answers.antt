-- A document is missing where none has the name.
use Rattle.std.proofs.Common.{◌≡◌, ◌∙◌, sym, ap, true, false, map, Some}
use Rattle.document_store.specs.Documents.{has_name}
use Rattle.document_store.specs.Loaded.{to_document}
use Rattle.session_state.proofs.PathLemmas.{missing-document}
use Rattle.session_state.proofs.paths.missing_document.Goals as goal

pub returns-then-contains_key : goal.returns-then-contains_key
returns-then-contains_key c =
    let documents = c.args.documents.now in
    let name = c.in-Doc.name in
    let there : has_name name (map to_document documents) ≡ true = sym c.contains_key.ensures ∙ c.if-contains_key.true in
    sym (missing-document c.args.root.now name (map to_document documents) true c.in-Doc.is there)

pub returns-else-contains_key : goal.returns-else-contains_key
returns-else-contains_key c =
    let documents = c.args.documents.now in
    let name = c.in-Doc.name in
    let there : has_name name (map to_document documents) ≡ false = sym c.contains_key.ensures ∙ c.if-contains_key.false in
    ap Some c.as_str.ensures ∙ sym (missing-document c.args.root.now name (map to_document documents) false c.in-Doc.is there)
