-- Each free slot gets the link to those after it.
use Rattle.std.proofs.Common.{◌≡◌, ◌+◌, ◌-◌, sym, ap, ◌∙◌, arith}
use Rattle.ordered_tree.specs.declared.slot.Slot.{Slot}
use Rattle.ordered_tree.specs.steps.FreeSlots.{is_free}
use Rattle.ordered_tree.proofs.FreeLemmas.{one-slot, links-before, links-free, links-taken, links-all}
use Rattle.ordered_tree.proofs.free_slots.link_free.Goals as goal

pub loop-left-init : goal.loop-left-init
loop-left-init c = links-before c.args.slots.now.items c.len-left.result (omega (arith, c.len-left.ensures))

pub loop-left-preserved-then-is_free : goal.loop-left-preserved-then-is_free
loop-left-preserved-then-is_free c =
    let inv = c.loop-left.invariant in
    let before : c.loop-left.left - 1 + 1 ≡ c.loop-left.left = omega (arith, c.loop-left-test.true) in
    let same : c.index_mut.result.now ≡ c.index.result.now =
    one-slot c.loop-left.slots.items (c.loop-left.left - 1) c.index_mut.result.now c.index.result.now (omega (arith, before, inv.within, inv.long)) c.index_mut.ensures.value c.index.ensures in
    links-free c.args.slots.now.items c.loop-left.slots.items c.loop-left.left (c.loop-left.left - 1) c.loop-left.free c.index_mut.result.now inv
    before c.index_mut.ensures.value (ap (λ (s : Slot). is_free s.held) same ∙ sym c.is_free.ensures ∙ c.if-is_free.true)

pub loop-left-preserved : goal.loop-left-preserved
loop-left-preserved c =
    links-taken c.args.slots.now.items c.loop-left.slots.items c.loop-left.left (c.loop-left.left - 1) c.loop-left.free c.index.result.now c.loop-left.invariant
    (omega (arith, c.loop-left-test.true)) c.index.ensures (sym c.is_free.ensures ∙ c.if-is_free.false)

pub returns-clause-long : goal.returns-clause-long
returns-clause-long c = c.loop-left.invariant.long

pub returns-clause-kept : goal.returns-clause-kept
returns-clause-kept c = c.loop-left.invariant.kept

pub returns-clause-below : goal.returns-clause-below
returns-clause-below c all =
    (c.loop-left.invariant.below 2147483648 (omega (arith, c.requires)) all).0

pub returns-clause-free : goal.returns-clause-free
returns-clause-free c = links-all c.args.slots.now.items c.loop-left.slots.items c.loop-left.left c.loop-left.free c.loop-left.invariant (omega (arith, c.loop-left-test.false))
