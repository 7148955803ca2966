-- The slot that a reference names is that of its node.
use Rattle.std.proofs.Common.{◌<◌, length, sym, ap, subst, arith}
use Rattle.std.specs.List.{Contains}
use Rattle.ordered_tree.specs.Slots.{root_of}
use Rattle.ordered_tree.specs.Stands.{references}
use Rattle.ordered_tree.proofs.ReadingLemmas.{slot-bounds, slot-few}
use Rattle.ordered_tree.specs.steps.Parts.{slot_of}
use Rattle.ordered_tree.proofs.doc_tree.DocTree.slot.Goals as goal

pub get-requires : goal.get-requires
get-requires c =
    let slots = c.self.inside.slots in
    let there : Contains (references (root_of slots)) c.args.node = subst (λ v. Contains (references v.root) c.args.node) (sym c.self.view_is) c.requires in
    let bound : c.args.node.0 < length slots = slot-bounds slots (root_of slots) c.self.invariant.stored.stands c.args.node there in
    omega arith

pub returns-clause-few : goal.returns-clause-few
returns-clause-few c =
    let slots = c.self.inside.slots in
    let there : Contains (references (root_of slots)) c.args.node = subst (λ v. Contains (references v.root) c.args.node) (sym c.self.view_is) c.requires in
    let few = slot-few slots (root_of slots) c.self.invariant.stored.stands c.args.node there c.self.invariant.stored.few_words (slot_of c.get.result) in
    omega (arith, few, ap (λ s. s.around.before) c.get.ensures, ap (λ s. s.words) c.get.ensures)
