-- The name and the document of one place.
use Rattle.std.proofs.Common.{◌≡◌, ◌∙◌, ◌∷◌, ◌+◌, ap, arith, drop, get_or, length, rules, subst, sym}
use Rattle.document_store.proofs.DocumentsLemmas.{entry-at, length-beside}
use Rattle.document_store.proofs.documents.Documents.entry.Goals as goal

pub offset_bounds-as_slice-at : goal.offset_bounds-as_slice-at
offset_bounds-as_slice-at c =
    let names = ap length c.as_slice.ensures.names in
    let long = sym (length-beside c.self.inside.names c.self.inside.loaded c.self.invariant) ∙ ap length c.self.view_is in
    search rules

pub bounds-as_slice-at : goal.bounds-as_slice-at
bounds-as_slice-at c =
    let names = ap length c.as_slice.ensures.names in
    let long = sym (length-beside c.self.inside.names c.self.inside.loaded c.self.invariant) ∙ ap length c.self.view_is in
    omega (arith, names, long, c.requires)

pub get-requires : goal.get-requires
get-requires c =
    let long = sym (length-beside c.self.inside.names c.self.inside.loaded c.self.invariant) ∙ ap length c.self.view_is in
    (omega arith, omega (arith, long, c.self.invariant, c.requires))

pub returns : goal.returns
returns c =
    let long = sym (length-beside c.self.inside.names c.self.inside.loaded c.self.invariant) ∙ ap length c.self.view_is in
    subst (λ es. drop c.args.at es ≡ (c.index-as_slice-at.result, c.get.result.now) ∷ drop (c.args.at + 1) es) c.self.view_is
    (entry-at c.self.inside.names c.self.inside.loaded c.args.at c.index-as_slice-at.result c.get.result.now c.self.invariant (omega (arith, long, c.requires))
    (c.index-as_slice-at.is ∙ ap (λ ns. get_or ns c.args.at c.index-as_slice-at.result) c.as_slice.ensures.names) c.get.ensures)
