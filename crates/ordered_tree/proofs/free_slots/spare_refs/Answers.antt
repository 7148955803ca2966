-- Each reference is the next that the links name, or the next number.
use Rattle.std.proofs.Common.{◌≡◌, ◌+◌, ◌-◌, ◌<◌, ◌∷◌, ◌++◌, [], length, sym, ap, ap₂, ◌∙◌, arith, subst, append_assoc, append-nil}
use Rattle.std.proofs.lemmas.List.{get_or_default, length_push}
use Rattle.ft_base.specs.declared.ids.NodeRef.{NodeRef}
use Rattle.ordered_tree.specs.declared.slot.Slot.{Slot}
use Rattle.ordered_tree.specs.Slots.{no_slot, slot_at}
use Rattle.ordered_tree.specs.steps.FreeSlots.{Leads, spare}
use Rattle.ordered_tree.proofs.FreeLemmas.{leads-next, spare-some, spare-number, spare-zero}
use Rattle.ordered_tree.specs.steps.Parts.{slot_of}
use Rattle.ordered_tree.proofs.free_slots.spare_refs.Goals as goal

pub get-requires : goal.get-requires
get-requires c =
    omega (arith, (leads-next c.args.slots.now c.in-Some.here (subst (Leads c.args.slots.now) c.in-Some.is c.loop-link.invariant.leads)).0)

pub loop-link-preserved-in-Some : goal.loop-link-preserved-in-Some
loop-link-preserved-in-Some c =
    let slots = c.args.slots.now in
    let refs = c.loop-link.refs in
    let here = c.in-Some.here in
    let number = c.loop-link.number in
    let next = leads-next slots here (subst (Leads slots) c.in-Some.is c.loop-link.invariant.leads) in
    let read : slot_at slots here ≡ (slot_of c.get.result) = get_or_default slots here.0 no_slot (slot_of c.get.result) next.0 ∙ sym c.get.ensures in
    let pushed : c.push.new.self ≡ refs ++ here ∷ [] = c.in_ok-push-in-Some.ensures.ok in
    let longer : length c.push.new.self ≡ length refs + 1 = ap length pushed ∙ length_push refs here in
    let fewer : c.args.count - length c.push.new.self ≡ (c.args.count - length refs) - 1 = omega arith in
    let some : 0 < c.args.count - length refs = omega (arith, c.loop-link-test.true, c.len.ensures) in
    record {
      done = ap₂ (λ l n. l ++ spare n slots (slot_of c.get.result).around.next number) pushed fewer
          ∙ append_assoc refs (here ∷ []) (spare ((c.args.count - length refs) - 1) slots (slot_of c.get.result).around.next number)
          ∙ ap (λ (s : Slot). refs ++ here ∷ spare ((c.args.count - length refs) - 1) slots s.around.next number) (sym read)
          ∙ ap (λ l. refs ++ l) (sym (spare-some (c.args.count - length refs) slots here number some))
          ∙ ap (λ l. refs ++ spare (c.args.count - length refs) slots l number) (sym c.in-Some.is)
          ∙ c.loop-link.invariant.done;
      leads = subst (λ (s : Slot). Leads slots s.around.next) read next.1;
      few = omega (arith, longer, c.loop-link-test.true, c.len.ensures);
      number = omega (arith, longer, c.loop-link.invariant.number);
    }

pub loop-link-preserved : goal.loop-link-preserved
loop-link-preserved c =
    let slots = c.args.slots.now in
    let refs = c.loop-link.refs in
    let number = c.loop-link.number in
    let here : NodeRef = record { 0 = number } in
    let pushed : c.push-in-None.new.self ≡ refs ++ here ∷ [] = c.in_ok-push-in-None.ensures.ok in
    let longer : length c.push-in-None.new.self ≡ length refs + 1 = ap length pushed ∙ length_push refs here in
    let fewer : c.args.count - length c.push-in-None.new.self ≡ (c.args.count - length refs) - 1 = omega arith in
    let some : 0 < c.args.count - length refs = omega (arith, c.loop-link-test.true, c.len.ensures) in
    record {
      done = ap₂ (λ l n. l ++ spare n slots c.loop-link.link (number + 1)) pushed fewer
          ∙ append_assoc refs (here ∷ []) (spare ((c.args.count - length refs) - 1) slots c.loop-link.link (number + 1))
          ∙ ap (λ l. refs ++ here ∷ spare ((c.args.count - length refs) - 1) slots l (number + 1)) c.in-None.is
          ∙ ap (λ l. refs ++ l) (sym (spare-number (c.args.count - length refs) slots number some))
          ∙ ap (λ l. refs ++ spare (c.args.count - length refs) slots l number) (sym c.in-None.is)
          ∙ c.loop-link.invariant.done;
      leads = c.loop-link.invariant.leads;
      few = omega (arith, longer, c.loop-link-test.true, c.len.ensures);
      number = omega (arith, longer, c.loop-link.invariant.number);
    }

pub returns : goal.returns
returns c =
    let slots = c.args.slots.now in
    let none : c.args.count - length c.loop-link.refs ≡ 0 = omega (arith, c.loop-link-test.false, c.len.ensures) in
    sym (append-nil c.loop-link.refs) ∙ ap (λ l. c.loop-link.refs ++ l) (sym (spare-zero (c.args.count - length c.loop-link.refs) slots c.loop-link.link c.loop-link.number none))
    ∙ c.loop-link.invariant.done
