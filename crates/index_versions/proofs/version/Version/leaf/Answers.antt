-- The leaves of a document have their numbers under what its ids name.
use Rattle.std.proofs.Common.{◌≡◌, length, get_or, ap, ◌∙◌, arith}
use Rattle.index_document.specs.Terms.{TermDocument}
use Rattle.index_document.specs.Terms as by_id
use Rattle.index_meaning.specs.Documents.{document_at, leaf_ids}
use Rattle.index_versions.proofs.PlacesLemmas.{leaf_ids_are, leaf_there, leaves_are}
use Rattle.index_versions.proofs.version.Version.leaf.Goals as goal

pub leaf-requires : goal.leaf-requires
leaf-requires c =
    let parts = c.self.inside.parts in
    let document = c.held.ensures.meant ∙ ap (document_at c.args.doc.0) c.self.view_is in
    omega (
      arith,
      c.requires.number,
      ap (λ (index : TermDocument). length index.leaves) c.index.ensures,
      leaves_are parts.dictionary.given c.held.result.now (document_at c.args.doc.0 c.args.self.now) document,
    )

number_is : (c : goal.After-leaf) → c.leaf.result.0 ≡ get_or (leaf_ids (document_at c.args.doc.0 c.args.self.now).leaves) c.args.number 0
number_is c =
    let parts = c.self.inside.parts in
    let document = c.held.ensures.meant ∙ ap (document_at c.args.doc.0) c.self.view_is in
    c.leaf.ensures
    ∙ ap (λ (index : TermDocument). get_or (by_id.leaf_ids index.leaves) c.args.number 0) c.index.ensures
    ∙ ap (λ ids. get_or ids c.args.number 0) (leaf_ids_are parts.dictionary.given c.held.result.now (document_at c.args.doc.0 c.args.self.now) document)

pub returns-clause-leaf : goal.returns-clause-leaf
returns-clause-leaf c = number_is c

pub returns-clause-there : goal.returns-clause-there
returns-clause-there c = leaf_there c.leaf.result.0 c.args.number (document_at c.args.doc.0 c.args.self.now) c.requires.number (number_is c)
