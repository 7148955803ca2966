-- The first slot is the root's, its reference is one of the document's, and the root is an element.
use Rattle.std.proofs.Common.{◌≡◌, true, sym, ap, ◌∙◌, subst}
use Rattle.std.specs.List.{Contains}
use Rattle.ordered_tree.specs.Numbered.{is_element, reference}
use Rattle.ordered_tree.specs.Slots.{root_of}
use Rattle.ordered_tree.specs.Stands.{references}
use Rattle.ordered_tree.proofs.LinksLemmas.{root-there}
use Rattle.ordered_tree.proofs.ReadingLemmas.{document-element}
use Rattle.ordered_tree.proofs.doc_tree.DocTree.root.Goals as goal

pub returns-clause-there : goal.returns-clause-there
returns-clause-there c =
    let root = c.args.self.now.root in
    subst (Contains (references root)) (ap (λ v. reference v.root) (sym c.self.view_is) ∙ c.self.invariant.stored.rooted) (root-there root)

pub returns-clause-element : goal.returns-clause-element
returns-clause-element c =
    subst (λ v. is_element v.root ≡ true) c.self.view_is (document-element (root_of c.self.inside.slots) c.self.invariant.stored.document)
