-- Each node of a document stands in a row with the siblings after it.
use Rattle.std.proofs.Common.{sym, ap, ◌∙◌, subst}
use Rattle.std.specs.List.{Contains}
use Rattle.std.proofs.lemmas.List.Elements.{All-contains}
use Rattle.ordered_tree.specs.Numbered.{plain}
use Rattle.ordered_tree.specs.Slots.{root_of}
use Rattle.ordered_tree.specs.Stands.{stands_in, references}
use Rattle.ordered_tree.proofs.ReadingLemmas.{Found, found}
use Rattle.ordered_tree.proofs.RowsLemmas.{IsFirst, row_from, node_at-first, document-first}
use Rattle.ordered_tree.proofs.doc_tree.DocTree.to_tree.Goals as goal

pub tree_of-requires : goal.tree_of-requires
tree_of-requires c =
    let slots = c.self.inside.slots in
    let root = root_of slots in
    let there : Contains (references root) c.args.node = subst (λ v. Contains (references v.root) c.args.node) (sym c.self.view_is) c.requires in
    let f : Found root c.args.node = found root c.args.node there in
    let first = All-contains (λ s. IsFirst slots s.node) (stands_in root) f.stand (document-first slots c.self.inside.free root c.self.invariant.stored) f.among in
    row_from slots f.stand.node c.args.node f.refers first

pub returns : goal.returns
returns c s among refers =
    let slots = c.self.inside.slots in
    let root = root_of slots in
    let there : Contains (stands_in root) s = subst (λ v. Contains (stands_in v.root) s) (sym c.self.view_is) among in
    let first = All-contains (λ s. IsFirst slots s.node) (stands_in root) s (document-first slots c.self.inside.free root c.self.invariant.stored) there in
    c.in_ok-tree.ensures ∙ ap plain (node_at-first slots s.node c.args.node refers first)
