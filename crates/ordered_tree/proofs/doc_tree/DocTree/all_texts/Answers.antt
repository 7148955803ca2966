-- The texts of the root are those of the document.
use Rattle.std.proofs.Common.{◌++◌, map, ap, ◌∙◌, arith}
use Rattle.ordered_tree.specs.Leaves.{text_of, texts}
use Rattle.ordered_tree.specs.Slots.{root_of, node_at, root_ref}
use Rattle.ordered_tree.proofs.RowLemmas.{Step, root-row, fits, step}
use Rattle.ordered_tree.proofs.doc_tree.DocTree.all_texts.Goals as goal

pub get-requires : goal.get-requires
get-requires c =
    let slots = c.self.inside.slots in
    let st : Step slots root_ref =
    step slots root_ref (root-row slots c.self.inside.free c.self.invariant.stored (fits slots c.self.inside.free (root_of slots) c.self.invariant.stored)) in
    omega (arith, st.here)

pub add_texts-requires-clause-row : goal.add_texts-requires-clause-row
add_texts-requires-clause-row c =
    let slots = c.self.inside.slots in
    root-row slots c.self.inside.free c.self.invariant.stored (fits slots c.self.inside.free (root_of slots) c.self.invariant.stored)

pub returns : goal.returns
unfolding root_of
returns c =
    c.in_ok-add_texts.ensures
    ∙ ap (λ l. map text_of l ++ texts (node_at c.self.inside.slots root_ref)) c.new-list.ensures.items
    ∙ ap (λ v. texts v.root) c.self.view_is
