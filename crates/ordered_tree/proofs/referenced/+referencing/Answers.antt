-- A text stays itself, an element gets its children, and each link leads to the next of them.
use Rattle.std.proofs.Common.{◌≡◌, [], ◌∷◌, ◌++◌, map, length, sym, ap, ap₂, ◌∙◌, subst, arith, append_assoc, append-nil}
use Rattle.std.proofs.lemmas.List.{map-append}
use Rattle.doc_grammar.specs.Limits.{nodes_count}
use Rattle.ordered_tree.specs.Numbered.{element_at, text_at, plain_children, children, no_children, child_then}
use Rattle.ordered_tree.specs.RefView.{ref_node, ref_nodes}
use Rattle.ordered_tree.specs.Slots.{IsRow, held, row}
use Rattle.ordered_tree.specs.declared.slot.Held.TheVariants.{Element, Text}
use Rattle.ordered_tree.proofs.SlotsLemmas.{from_link-none}
use Rattle.ordered_tree.proofs.RowLemmas.{Step, step, step-link, row-link, row-next, left-next, smaller-next, held-here, not-free, row-here, inner-here, smaller-here, node_at-is}
use Rattle.ordered_tree.proofs.RefLists.{node_list, ref_nodes-node_list, node-element, node-text}
use Rattle.ordered_tree.proofs.RefViews.{ref_node_element, ref_node_text}
use Rattle.ordered_tree.specs.steps.Parts.{slot_of}
use Rattle.ordered_tree.proofs.referenced.+referencing.Goals as goal

pub all_referenced-get-slot-requires : goal.all_referenced-get-slot-requires
all_referenced-get-slot-requires t c =
    let slots = c.args.slots.now in
    let st : Step slots c.in-Some.here = step slots c.in-Some.here (subst (IsRow slots) c.in-Some.is c.loop-link.invariant.left) in
    omega (arith, st.here)

pub all_referenced-loop-link-smaller : goal.all_referenced-loop-link-smaller
all_referenced-loop-link-smaller t c =
    let slots = c.args.slots.now in
    smaller-next slots c.loop-link.link c.in-Some.here c.loop-link.invariant.left c.in-Some.is (slot_of c.get-slot.result) c.get-slot.ensures

pub all_referenced-loop-link-preserved : goal.all_referenced-loop-link-preserved
all_referenced-loop-link-preserved t c =
    let slots = c.args.slots.now in
    let link = c.loop-link.link in
    let left = c.loop-link.invariant.left in
    let s = (slot_of c.get-slot.result) in
    let st = step-link slots link c.in-Some.here left c.in-Some.is s c.get-slot.ensures in
    let rest : row slots s.around.next ≡ st.ns = row-next slots link c.in-Some.here left c.in-Some.is s c.get-slot.ensures in
    let all : row slots link ≡ child_then st.n st.ns = row-link slots link c.in-Some.here left c.in-Some.is s c.get-slot.ensures in
    let tree = c.in_ok-referenced.field-0 in
    let kids = c.loop-link.kids in
    let one : ref_node tree ≡ st.n = c.in_ok-referenced.ensures ∙ node_at-is slots c.in-Some.here st in
    record {
      left = left-next slots link c.in-Some.here left c.in-Some.is s c.get-slot.ensures;
      done = ap (λ k. map ref_node k ++ node_list (row slots s.around.next)) c.in_ok-push.ensures.ok
          ∙ ap (λ m. m ++ node_list (row slots s.around.next)) (map-append ref_node kids (tree ∷ []))
          ∙ append_assoc (map ref_node kids) (ref_node tree ∷ []) (node_list (row slots s.around.next))
          ∙ ap₂ (λ n ns. map ref_node kids ++ n ∷ node_list ns) one rest
          ∙ ap (λ ns. map ref_node kids ++ node_list ns) (sym all)
          ∙ c.loop-link.invariant.done;
      fewer = omega (arith, c.loop-link.invariant.fewer, ap (λ ns. nodes_count (plain_children ns)) rest, ap (λ ns. nodes_count (plain_children ns)) all);
    }

pub all_referenced-returns : goal.all_referenced-returns
all_referenced-returns t c =
    let slots = c.args.slots.now in
    let kids = c.loop-link.kids in
    let none : row slots c.loop-link.link ≡ no_children = ap (row slots) c.in_default.is ∙ from_link-none slots (length slots) in
    ap ref_nodes (sym (append-nil (map ref_node kids)) ∙ ap (λ ns. map ref_node kids ++ node_list ns) (sym none) ∙ c.loop-link.invariant.done)
    ∙ ref_nodes-node_list (row slots c.args.first)

pub referenced-all_referenced-requires : goal.referenced-all_referenced-requires
referenced-all_referenced-requires t c =
    let slots = c.args.slots.now in
    let s = (slot_of c.args.slot) in
    (omega (arith, c.decreases, smaller-here slots c.args.here c.requires.row s c.requires.slot c.in-Element.name c.in-Element.attrs c.in-Element.is), inner-here slots c.args.here c.requires.row s c.requires.slot)

pub referenced-returns-in_ok-share-in-Text : goal.referenced-returns-in_ok-share-in-Text
referenced-returns-in_ok-share-in-Text t c =
    let slots = c.args.slots.now in
    let s = (slot_of c.args.slot) in
    let st : Step slots c.args.here = step slots c.args.here c.requires.row in
    let is : held st.n ≡ Text c.in-Text.text = held-here slots c.args.here c.requires.row s c.requires.slot (Text c.in-Text.text) c.in-Text.is in
    ref_node_text c.args.here c.in_ok-share-in-Text.field-0 ∙ ap (text_at c.args.here) c.in_ok-share-in-Text.ensures
    ∙ ap (λ r. text_at r c.in-Text.text) (sym st.refers) ∙ sym (node-text st.n c.in-Text.text is) ∙ sym (node_at-is slots c.args.here st)

pub referenced-returns-in_ok-all_referenced-in-Element : goal.referenced-returns-in_ok-all_referenced-in-Element
referenced-returns-in_ok-all_referenced-in-Element t c =
    let slots = c.args.slots.now in
    let s = (slot_of c.args.slot) in
    let st : Step slots c.args.here = step slots c.args.here c.requires.row in
    let is : held st.n ≡ Element c.in-Element.name c.in-Element.attrs = held-here slots c.args.here c.requires.row s c.requires.slot (Element c.in-Element.name c.in-Element.attrs) c.in-Element.is in
    let kids : ref_nodes (map ref_node c.in_ok-all_referenced-in-Element.field-0) ≡ children st.n = c.in_ok-all_referenced-in-Element.ensures ∙ row-here slots c.args.here c.requires.row s c.requires.slot in
    ref_node_element _ _ _ _
    ∙ ap (λ n. element_at c.args.here n c.in_ok-share-in-Element-2.field-0 (ref_nodes (map ref_node c.in_ok-all_referenced-in-Element.field-0))) c.in_ok-share-in-Element.ensures
    ∙ ap (λ a. element_at c.args.here c.in-Element.name a (ref_nodes (map ref_node c.in_ok-all_referenced-in-Element.field-0))) c.in_ok-share-in-Element-2.ensures
    ∙ ap (element_at c.args.here c.in-Element.name c.in-Element.attrs) kids
    ∙ ap (λ r. element_at r c.in-Element.name c.in-Element.attrs (children st.n)) (sym st.refers)
    ∙ sym (node-element st.n c.in-Element.name c.in-Element.attrs is) ∙ sym (node_at-is slots c.args.here st)

pub referenced-unreachable-requires : goal.referenced-unreachable-requires
referenced-unreachable-requires t c = not-free c.args.slots.now c.args.here c.requires.row (slot_of c.args.slot) c.requires.slot c.in-Free.is
