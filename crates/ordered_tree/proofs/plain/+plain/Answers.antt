-- A text stays itself, an element gets its children as plain trees, and each link leads to the next of them.
use Rattle.std.proofs.Common.{◌≡◌, [], ◌∷◌, ◌++◌, map, length, sym, ap, ap₂, ◌∙◌, subst, arith, append_assoc, append-nil}
use Rattle.std.proofs.lemmas.List.{map-append}
use Rattle.doc_grammar.specs.Limits.{nodes_count}
use Rattle.plain_tree.specs.Document.{element, text, nodes}
use Rattle.plain_tree.specs.View.{node}
use Rattle.plain_tree.proofs.Views.{node_elem, node_text}
use Rattle.ordered_tree.specs.Numbered.{plain, plain_children, children, no_children, child_then}
use Rattle.ordered_tree.specs.Slots.{IsRow, held, row}
use Rattle.ordered_tree.specs.declared.slot.Held.TheVariants.{Element, Text}
use Rattle.ordered_tree.proofs.SlotsLemmas.{from_link-none}
use Rattle.ordered_tree.proofs.RowLemmas.{Step, step, step-link, row-link, row-next, left-next, smaller-next, held-here, not-free, row-here, inner-here, smaller-here, node_at-is, plain_list, nodes-plain_list, plain-element, plain-text}
use Rattle.ordered_tree.specs.steps.Parts.{slot_of}
use Rattle.ordered_tree.proofs.plain.+plain.Goals as goal

-- ---- kids_of

pub kids_of-get-requires : goal.kids_of-get-requires
kids_of-get-requires t c =
    let slots = c.args.slots.now in
    let st : Step slots c.in-Some.here = step slots c.in-Some.here (subst (IsRow slots) c.in-Some.is c.loop-link.invariant.left) in
    omega (arith, st.here)

pub kids_of-loop-link-smaller : goal.kids_of-loop-link-smaller
kids_of-loop-link-smaller t c =
    let slots = c.args.slots.now in
    smaller-next slots c.loop-link.link c.in-Some.here c.loop-link.invariant.left c.in-Some.is (slot_of c.get.result) c.get.ensures

pub kids_of-loop-link-preserved : goal.kids_of-loop-link-preserved
kids_of-loop-link-preserved t c =
    let slots = c.args.slots.now in
    let link = c.loop-link.link in
    let left = c.loop-link.invariant.left in
    let s = (slot_of c.get.result) in
    let st = step-link slots link c.in-Some.here left c.in-Some.is s c.get.ensures in
    let rest : row slots s.around.next ≡ st.ns = row-next slots link c.in-Some.here left c.in-Some.is s c.get.ensures in
    let all : row slots link ≡ child_then st.n st.ns = row-link slots link c.in-Some.here left c.in-Some.is s c.get.ensures in
    let tree = c.in_ok-tree_of.field-0 in
    let kids = c.loop-link.kids in
    let one : node tree ≡ plain st.n = c.in_ok-tree_of.ensures ∙ ap plain (node_at-is slots c.in-Some.here st) in
    record {
      left = left-next slots link c.in-Some.here left c.in-Some.is s c.get.ensures;
      done = ap (λ k. map node k ++ plain_list (row slots s.around.next)) c.in_ok-push.ensures.ok
          ∙ ap (λ m. m ++ plain_list (row slots s.around.next)) (map-append node kids (tree ∷ []))
          ∙ append_assoc (map node kids) (node tree ∷ []) (plain_list (row slots s.around.next))
          ∙ ap₂ (λ n ns. map node kids ++ n ∷ plain_list ns) one rest
          ∙ ap (λ ns. map node kids ++ plain_list ns) (sym all)
          ∙ c.loop-link.invariant.done;
      fewer = omega (arith, c.loop-link.invariant.fewer, ap (λ ns. nodes_count (plain_children ns)) rest, ap (λ ns. nodes_count (plain_children ns)) all);
    }

pub kids_of-returns : goal.kids_of-returns
kids_of-returns t c =
    let slots = c.args.slots.now in
    let kids = c.loop-link.kids in
    let none : row slots c.loop-link.link ≡ no_children = ap (row slots) c.in_default.is ∙ from_link-none slots (length slots) in
    ap nodes (sym (append-nil (map node kids)) ∙ ap (λ ns. map node kids ++ plain_list ns) (sym none) ∙ c.loop-link.invariant.done)
    ∙ nodes-plain_list (row slots c.args.first)

-- ---- tree_of

pub tree_of-get-slot-requires : goal.tree_of-get-slot-requires
tree_of-get-slot-requires t c =
    let st : Step c.args.slots.now c.args.here = step c.args.slots.now c.args.here c.requires in
    omega (arith, st.here)

pub tree_of-kids_of-requires : goal.tree_of-kids_of-requires
tree_of-kids_of-requires t c =
    let slots = c.args.slots.now in
    let s = (slot_of c.get-slot.result) in
    (omega (arith, c.decreases, smaller-here slots c.args.here c.requires s c.get-slot.ensures c.in-Element.name c.in-Element.attrs c.in-Element.is), inner-here slots c.args.here c.requires s c.get-slot.ensures)

pub tree_of-returns-in_ok-read-in-Text : goal.tree_of-returns-in_ok-read-in-Text
tree_of-returns-in_ok-read-in-Text t c =
    let slots = c.args.slots.now in
    let s = (slot_of c.get-slot.result) in
    let st : Step slots c.args.here = step slots c.args.here c.requires in
    let is : held st.n ≡ Text c.in-Text.text = held-here slots c.args.here c.requires s c.get-slot.ensures (Text c.in-Text.text) c.in-Text.is in
    node_text c.in_ok-read-in-Text.field-0 ∙ ap text (c.in_ok-read-in-Text.ensures ∙ c.as_str.ensures)
    ∙ sym (plain-text st.n c.in-Text.text is) ∙ sym (ap plain (node_at-is slots c.args.here st))

pub tree_of-returns-in_ok-kids_of-in-Element : goal.tree_of-returns-in_ok-kids_of-in-Element
tree_of-returns-in_ok-kids_of-in-Element t c =
    let slots = c.args.slots.now in
    let s = (slot_of c.get-slot.result) in
    let st : Step slots c.args.here = step slots c.args.here c.requires in
    let is : held st.n ≡ Element c.in-Element.name c.in-Element.attrs = held-here slots c.args.here c.requires s c.get-slot.ensures (Element c.in-Element.name c.in-Element.attrs) c.in-Element.is in
    let kids : nodes (map node c.in_ok-kids_of-in-Element.field-0) ≡ plain_children (children st.n) = c.in_ok-kids_of-in-Element.ensures ∙ ap plain_children (row-here slots c.args.here c.requires s c.get-slot.ensures) in
    node_elem _ _ _
    ∙ ap (λ n. element n c.in_ok-to_attrs-in-Element.field-0 (nodes (map node c.in_ok-kids_of-in-Element.field-0))) (c.in_ok-read-in-Element.ensures ∙ c.as_str-in-Element.ensures)
    ∙ ap (λ a. element c.in-Element.name a (nodes (map node c.in_ok-kids_of-in-Element.field-0))) c.in_ok-to_attrs-in-Element.ensures
    ∙ ap (element c.in-Element.name c.in-Element.attrs) kids
    ∙ sym (plain-element st.n c.in-Element.name c.in-Element.attrs is) ∙ sym (ap plain (node_at-is slots c.args.here st))

pub tree_of-unreachable-requires : goal.tree_of-unreachable-requires
tree_of-unreachable-requires t c = not-free c.args.slots.now c.args.here c.requires (slot_of c.get-slot.result) c.get-slot.ensures c.in-Free.is
