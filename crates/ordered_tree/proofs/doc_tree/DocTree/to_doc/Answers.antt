-- The plain tree of the root is the document.
use Rattle.std.proofs.Common.{IsTrue, sym, ap, ◌∙◌, subst}
use Rattle.plain_tree.specs.Document.{is_document}
use Rattle.ordered_tree.specs.Numbered.{plain}
use Rattle.ordered_tree.specs.Slots.{root_of}
use Rattle.ordered_tree.proofs.RowLemmas.{root-row, fits}
use Rattle.ordered_tree.proofs.doc_tree.DocTree.to_doc.Goals as goal

pub tree_of-requires : goal.tree_of-requires
tree_of-requires c =
    let slots = c.self.inside.slots in
    root-row slots c.self.inside.free c.self.invariant.stored (fits slots c.self.inside.free (root_of slots) c.self.invariant.stored)

pub from_tree-requires : goal.from_tree-requires
unfolding root_of
from_tree-requires c = subst (λ n. IsTrue (is_document n)) (sym c.in_ok-tree.ensures) c.self.invariant.stored.document

pub returns : goal.returns
unfolding root_of
returns c = c.from_tree.ensures ∙ c.in_ok-tree.ensures ∙ ap (λ v. plain v.root) c.self.view_is
