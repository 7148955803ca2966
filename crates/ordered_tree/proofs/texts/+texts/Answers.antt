-- A text is put to the end, an element's are those of its children, and each link leads to the next sibling until there is none.
use Rattle.std.proofs.Common.{◌≡◌, [], ◌∷◌, ◌++◌, map, length, sym, ap, ap₂, ◌∙◌, subst, arith, append_assoc, append-nil, OnOk}
use Rattle.std.proofs.lemmas.List.{map-append}
use Rattle.doc_grammar.specs.Limits.{nodes_count}
use Rattle.ordered_tree.specs.Leaves.{text_of, texts, texts_of}
use Rattle.ordered_tree.specs.Numbered.{plain_children, no_children, child_then}
use Rattle.ordered_tree.specs.Slots.{IsRow, held, row, node_at}
use Rattle.ordered_tree.specs.declared.slot.Held.TheVariants.{Element, Text}
use Rattle.ordered_tree.proofs.LeavesLemmas.{texts-element, texts-text}
use Rattle.ordered_tree.proofs.RowLemmas.{Step, step, step-link, row-link, row-next, left-next, smaller-next, held-here, not-free, row-here, inner-here, smaller-here, node_at-is}
use Rattle.ordered_tree.proofs.SlotsLemmas.{from_link-none}
use Rattle.ordered_tree.specs.steps.Parts.{slot_of}
use Rattle.ordered_tree.proofs.texts.+texts.Goals as goal

-- ---- add_all_texts

pub add_all_texts-get-slot-requires : goal.add_all_texts-get-slot-requires
add_all_texts-get-slot-requires t c =
    let slots = c.args.slots.now in
    let st : Step slots c.in-Some.here = step slots c.in-Some.here (subst (IsRow slots) c.in-Some.is c.loop-link.invariant.left) in
    omega (arith, st.here)

pub add_all_texts-loop-link-smaller : goal.add_all_texts-loop-link-smaller
add_all_texts-loop-link-smaller t c =
    let slots = c.args.slots.now in
    smaller-next slots c.loop-link.link c.in-Some.here c.loop-link.invariant.left c.in-Some.is (slot_of c.get-slot.result) c.get-slot.ensures

pub add_all_texts-loop-link-preserved : goal.add_all_texts-loop-link-preserved
add_all_texts-loop-link-preserved t c =
    let slots = c.args.slots.now in
    let link = c.loop-link.link in
    let left = c.loop-link.invariant.left in
    let s = (slot_of c.get-slot.result) in
    let st = step-link slots link c.in-Some.here left c.in-Some.is s c.get-slot.ensures in
    let rest : row slots s.around.next ≡ st.ns = row-next slots link c.in-Some.here left c.in-Some.is s c.get-slot.ensures in
    let all : row slots link ≡ child_then st.n st.ns = row-link slots link c.in-Some.here left c.in-Some.is s c.get-slot.ensures in
    let prefix = map text_of c.loop-link.list.items in
    let one : texts (node_at slots c.in-Some.here) ≡ texts st.n = ap texts (node_at-is slots c.in-Some.here st) in
    record {
      left = left-next slots link c.in-Some.here left c.in-Some.is s c.get-slot.ensures;
      done = ap₂ (λ l ns. l ++ texts_of ns) (c.in_ok-add_texts.ensures ∙ ap (λ ts. prefix ++ ts) one) rest
          ∙ append_assoc prefix (texts st.n) (texts_of st.ns)
          ∙ ap (λ ns. prefix ++ texts_of ns) (sym all)
          ∙ c.loop-link.invariant.done;
      fewer = omega (arith, c.loop-link.invariant.fewer, ap (λ ns. nodes_count (plain_children ns)) rest, ap (λ ns. nodes_count (plain_children ns)) all);
    }

pub add_all_texts-returns : goal.add_all_texts-returns
add_all_texts-returns t c =
    let slots = c.args.slots.now in
    let prefix = map text_of c.loop-link.list.items in
    let none : row slots c.loop-link.link ≡ no_children = ap (row slots) c.in_default.is ∙ from_link-none slots (length slots) in
    sym (append-nil prefix) ∙ ap (λ ns. prefix ++ texts_of ns) (sym none) ∙ c.loop-link.invariant.done

-- ---- add_texts

pub add_texts-add_all_texts-requires : goal.add_texts-add_all_texts-requires
add_texts-add_all_texts-requires t c =
    let slots = c.args.slots.now in
    let s = (slot_of c.args.slot) in
    (omega (arith, c.decreases, smaller-here slots c.args.here c.requires.row s c.requires.slot c.in-Element.name c.in-Element.attrs c.in-Element.is), inner-here slots c.args.here c.requires.row s c.requires.slot)

pub add_texts-returns-in_ok-push-in-Text : goal.add_texts-returns-in_ok-push-in-Text
add_texts-returns-in_ok-push-in-Text t c =
    let slots = c.args.slots.now in
    let s = (slot_of c.args.slot) in
    let prefix = map text_of c.args.list.now.items in
    let st : Step slots c.args.here = step slots c.args.here c.requires.row in
    let is : held st.n ≡ Text c.in-Text.text = held-here slots c.args.here c.requires.row s c.requires.slot (Text c.in-Text.text) c.in-Text.is in
    let one : texts (node_at slots c.args.here) ≡ (c.args.here, c.in-Text.text) ∷ [] =
    ap texts (node_at-is slots c.args.here st) ∙ texts-text st.n c.in-Text.text is ∙ ap (λ r. (r, c.in-Text.text) ∷ []) st.refers in
    ap (map text_of) c.in_ok-push-in-Text.ensures.items
    ∙ map-append text_of c.args.list.now.items (record { node = c.args.here; text = c.as_str.result } ∷ [])
    ∙ ap (λ b. prefix ++ (c.args.here, b) ∷ []) c.as_str.ensures
    ∙ ap (λ ts. prefix ++ ts) (sym one)

pub add_texts-returns-in-Element : goal.add_texts-returns-in-Element
add_texts-returns-in-Element t c =
    let slots = c.args.slots.now in
    let s = (slot_of c.args.slot) in
    let st : Step slots c.args.here = step slots c.args.here c.requires.row in
    let is : held st.n ≡ Element c.in-Element.name c.in-Element.attrs = held-here slots c.args.here c.requires.row s c.requires.slot (Element c.in-Element.name c.in-Element.attrs) c.in-Element.is in
    let one : texts_of (row slots s.first_child) ≡ texts (node_at slots c.args.here) =
    ap texts_of (row-here slots c.args.here c.requires.row s c.requires.slot) ∙ sym (texts-element st.n c.in-Element.name c.in-Element.attrs is) ∙ sym (ap texts (node_at-is slots c.args.here st)) in
    subst (λ ts. OnOk c.add_all_texts.result (map text_of c.add_all_texts.new.list.items ≡ map text_of c.args.list.now.items ++ ts)) one c.add_all_texts.ensures

pub add_texts-unreachable-requires : goal.add_texts-unreachable-requires
add_texts-unreachable-requires t c = not-free c.args.slots.now c.args.here c.requires.row (slot_of c.args.slot) c.requires.slot c.in-Free.is
