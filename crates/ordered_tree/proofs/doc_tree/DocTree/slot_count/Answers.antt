-- Each reference is the number of a slot.
use Rattle.std.proofs.Common.{◌<◌, length, arith, subst}
use Rattle.std.specs.List.{All}
use Rattle.std.proofs.lemmas.List.Elements.{All-weaker}
use Rattle.ordered_tree.specs.Slots.{root_of}
use Rattle.ordered_tree.specs.Stands.{references}
use Rattle.ordered_tree.proofs.ReferencedLemmas.{refs-below}
use Rattle.ordered_tree.proofs.doc_tree.DocTree.slot_count.Goals as goal

pub returns-clause-below : goal.returns-clause-below
returns-clause-below c =
    let slots = c.self.inside.slots in
    let all : All (λ r. r.0 < length slots) (references (root_of slots)) = refs-below slots c.self.inside.free (root_of slots) c.self.invariant.stored in
    subst (λ v. All (λ r. r.0 < c.len.result) (references v.root)) c.self.view_is
    (All-weaker (λ r. r.0 < length slots) (λ r. r.0 < c.len.result) (λ r h. omega (arith, h, c.len.ensures)) (references (root_of slots)) all)

pub returns-clause-few : goal.returns-clause-few
returns-clause-few c = omega (arith, c.len.ensures, c.self.invariant.stored.few_slots)
