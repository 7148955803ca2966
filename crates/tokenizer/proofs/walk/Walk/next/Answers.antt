-- Next comes the first of a tree, the end tag of an element with no child left, or the first of its next child.
use Rattle.std.proofs.Common.{◌≡◌, sym, ap, ◌∙◌, ◌∷◌, ◌++◌, length, append_assoc, arith, rules, ◌≤◌, ◌<◌, refl}
use Rattle.std.proofs.lemmas.List.{nil_from_length}
use Rattle.plain_tree.specs.View.{node}
use Rattle.tokenizer.specs.Parts.{events}
use Rattle.tokenizer.specs.steps.Walks.{event_of, stack_left}
use Rattle.tokenizer.proofs.WalksLemmas.{events_left-begun, events_left-new, open_left-done, open_left-next, stack_left-nil, stack_left-push}
use Rattle.tokenizer.proofs.walk.Walk.next.Goals as goal

pub returns-in-Some : goal.returns-in-Some
returns-in-Some c =
    events_left-new c.args.self.now c.in-Some.root (sym c.in-Some.ensures.value) ∙ c.in_ok-begin.ensures
    ∙ ap (λ l. event_of c.in_ok-begin.field-0 ∷ l) (sym (events_left-begun (record { root = c.take.new.self; elements = c.begin.new.elements }) c.in-Some.ensures.after))

pub returns-in_default-pop : goal.returns-in_default-pop
returns-in_default-pop c =
    let none : length c.args.self.now.elements.items ≡ 0 = search rules in
    events_left-begun c.args.self.now (sym c.in_default.ensures.value) ∙ ap stack_left (nil_from_length _ none) ∙ stack_left-nil

pub returns-then-element-len : goal.returns-then-element-len
returns-then-element-len c =
    let done : length c.in-Some-pop.element.kids.now ≤ c.in-Some-pop.element.begun = omega arith in
    events_left-begun c.args.self.now (sym c.in_default.ensures.value) ∙ ap stack_left c.in-Some-pop.ensures.items
    ∙ stack_left-push c.pop.new.self.items c.in-Some-pop.element ∙ ap (λ l. l ++ stack_left c.pop.new.self.items) (open_left-done c.in-Some-pop.element done)
    ∙ rw (c.as_str.ensures, events_left-begun (record { root = c.take.new.self; elements = c.pop.new.self }) c.in_default.ensures.after) refl

pub returns : goal.returns
returns c =
    let element = c.in-Some-pop.element in
    let more : element.begun < length element.kids.now = omega arith in
    events_left-begun c.args.self.now (sym c.in_default.ensures.value) ∙ ap stack_left c.in-Some-pop.ensures.items
    ∙ stack_left-push c.pop.new.self.items element ∙ ap (λ l. l ++ stack_left c.pop.new.self.items) (open_left-next element c.get-kid.result.now more c.get-kid.ensures)
    ∙ append_assoc (events (node c.get-kid.result.now)) _ _
    ∙ ap (λ l. events (node c.get-kid.result.now) ++ l) (sym (ap stack_left c.in_ok-push.ensures.items ∙ stack_left-push c.pop.new.self.items _))
    ∙ c.in_ok-begin-2.ensures
    ∙ ap (λ l. event_of c.in_ok-begin-2.field-0 ∷ l) (sym (events_left-begun (record { root = c.take.new.self; elements = c.begin-2.new.elements }) c.in_default.ensures.after))
