-- The head that a reference names is that of its node's slot, and the links in it name nodes too.
use Rattle.std.proofs.Common.{◌≡◌, ◌<◌, length, get_or, sym, ap, ◌∙◌, subst, arith}
use Rattle.std.specs.List.{Contains}
use Rattle.std.specs.Option.{IfSome}
use Rattle.std.proofs.lemmas.List.{get_or-map}
use Rattle.std.proofs.lemmas.List.Elements.{All-contains}
use Rattle.ordered_tree.specs.Numbered.{reference}
use Rattle.ordered_tree.specs.Slots.{no_slot, root_of, slot}
use Rattle.ordered_tree.specs.Stands.{Stand, references, stands_in}
use Rattle.ordered_tree.specs.steps.Heads.{head_of}
use Rattle.ordered_tree.proofs.LinksLemmas.{Linked, all-linked}
use Rattle.ordered_tree.proofs.ReadingLemmas.{Found, found, slot-reads, slot-bounds, slot-few}
use Rattle.ordered_tree.proofs.doc_tree.DocTree.head.Goals as goal

pub head-requires : goal.head-requires
head-requires c =
    let slots = c.self.inside.slots in
    let there : Contains (references (root_of slots)) c.args.node = subst (λ v. Contains (references v.root) c.args.node) (sym c.self.view_is) c.requires in
    slot-bounds slots (root_of slots) c.self.invariant.stored.stands c.args.node there

-- the head is that of each node of this reference
is-head : (c : goal.After-head) → (s : Stand) → Contains (stands_in c.args.self.now.root) s → reference s.node ≡ c.args.node → c.head.result.now ≡ head_of (slot s)
is-head c s among refers =
    let slots = c.self.inside.slots in
    let there : Contains (references (root_of slots)) c.args.node = subst (λ v. Contains (references v.root) c.args.node) (sym c.self.view_is) c.requires in
    let bound : c.args.node.0 < length slots = slot-bounds slots (root_of slots) c.self.invariant.stored.stands c.args.node there in
    c.head.ensures
    ∙ (get_or-map head_of slots c.args.node.0 no_slot c.head.result.now bound
    ∙ ap head_of (slot-reads slots (root_of slots) c.self.invariant.stored.stands c.args.node s (subst (λ v. Contains (stands_in v.root) s) (sym c.self.view_is) among) refers no_slot))

pub returns-clause-stands : goal.returns-clause-stands
returns-clause-stands c = is-head c

pub returns-clause-parent : goal.returns-clause-parent
returns-clause-parent c =
    let root = c.args.self.now.root in
    let f : Found root c.args.node = found root c.args.node c.requires in
    let links : Linked root f.stand = All-contains (Linked root) (stands_in root) f.stand (all-linked root) f.among in
    subst (λ h. IfSome h.parent (Contains (references root))) (sym (is-head c f.stand f.among f.refers)) links.parent

pub returns-clause-next : goal.returns-clause-next
returns-clause-next c =
    let root = c.args.self.now.root in
    let f : Found root c.args.node = found root c.args.node c.requires in
    let links : Linked root f.stand = All-contains (Linked root) (stands_in root) f.stand (all-linked root) f.among in
    subst (λ h. IfSome h.next (Contains (references root))) (sym (is-head c f.stand f.among f.refers)) links.next

pub returns-clause-first : goal.returns-clause-first
returns-clause-first c =
    let root = c.args.self.now.root in
    let f : Found root c.args.node = found root c.args.node c.requires in
    let links : Linked root f.stand = All-contains (Linked root) (stands_in root) f.stand (all-linked root) f.among in
    subst (λ h. IfSome h.first_child (Contains (references root))) (sym (is-head c f.stand f.among f.refers)) links.first

pub returns-clause-few : goal.returns-clause-few
returns-clause-few c =
    let slots = c.self.inside.slots in
    let there : Contains (references (root_of slots)) c.args.node = subst (λ v. Contains (references v.root) c.args.node) (sym c.self.view_is) c.requires in
    let few = slot-few slots (root_of slots) c.self.invariant.stored.stands c.args.node there c.self.invariant.stored.few_words no_slot in
    let bound : c.args.node.0 < length slots = slot-bounds slots (root_of slots) c.self.invariant.stored.stands c.args.node there in
    let head : c.head.result.now ≡ head_of (get_or slots c.args.node.0 no_slot) = c.head.ensures ∙ get_or-map head_of slots c.args.node.0 no_slot c.head.result.now bound in
    omega (arith, few, ap (λ h. h.before) head, ap (λ h. h.words) head)
