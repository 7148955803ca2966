-- The node of the root's reference is the document.
use Rattle.std.proofs.Common.{ap, ◌∙◌, arith}
use Rattle.ordered_tree.specs.Slots.{root_of, root_ref}
use Rattle.ordered_tree.proofs.RowLemmas.{Step, root-row, fits, step}
use Rattle.ordered_tree.proofs.doc_tree.DocTree.to_referenced.Goals as goal

pub get-requires : goal.get-requires
get-requires c =
    let slots = c.self.inside.slots in
    let st : Step slots root_ref =
    step slots root_ref (root-row slots c.self.inside.free c.self.invariant.stored (fits slots c.self.inside.free (root_of slots) c.self.invariant.stored)) in
    omega (arith, st.here)

pub referenced-requires-clause-row : goal.referenced-requires-clause-row
referenced-requires-clause-row c =
    let slots = c.self.inside.slots in
    root-row slots c.self.inside.free c.self.invariant.stored (fits slots c.self.inside.free (root_of slots) c.self.invariant.stored)

pub returns : goal.returns
unfolding root_of
returns c = c.in_ok-tree.ensures ∙ ap (λ v. v.root) c.self.view_is
