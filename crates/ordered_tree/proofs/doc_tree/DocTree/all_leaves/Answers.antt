-- The leaves of the root, after none, are those of the document.
use Rattle.std.proofs.Common.{◌++◌, None, ap, ◌∙◌}
use Rattle.ordered_tree.specs.Leaves.{leaves, leaves_after, texts}
use Rattle.ordered_tree.specs.Slots.{root_of, node_at, root_ref}
use Rattle.ordered_tree.proofs.RowLemmas.{root-row, fits}
use Rattle.ordered_tree.proofs.doc_tree.DocTree.all_leaves.Goals as goal

pub add_leaves-requires : goal.add_leaves-requires
add_leaves-requires c =
    let slots = c.self.inside.slots in
    root-row slots c.self.inside.free c.self.invariant.stored (fits slots c.self.inside.free (root_of slots) c.self.invariant.stored)

pub returns : goal.returns
unfolding root_of
returns c =
    c.in_ok-add_leaves.ensures.leaves
    ∙ ap (λ l. l ++ leaves_after None (texts (node_at c.self.inside.slots root_ref))) c.new-leaves.ensures
    ∙ ap (λ v. leaves v.root) c.self.view_is
