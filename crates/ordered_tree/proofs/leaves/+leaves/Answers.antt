-- A text has one leaf, an element has those of its children, and each link leads to the next sibling until there is none.
use Rattle.std.proofs.Common.{◌≡◌, ℕ, [], ◌∷◌, ◌++◌, length, sym, ap, ap₂, ◌∙◌, subst, arith, append_assoc, append-nil, OnOk, IfOk}
use Rattle.doc_grammar.specs.Limits.{nodes_count}
use Rattle.text_words.specs.Words.{words}
use Rattle.ordered_tree.specs.Leaves.{texts, texts_of, leaf_of, leaves_after, last_leaf}
use Rattle.ordered_tree.specs.Numbered.{plain_children, no_children, child_then}
use Rattle.ordered_tree.specs.Slots.{IsRow, held, row, node_at}
use Rattle.ordered_tree.specs.declared.slot.Held.TheVariants.{Element, Text}
use Rattle.ordered_tree.proofs.LeavesLemmas.{leaves_after-append, last_leaf-append, leaves_after-nil, last_leaf-nil, texts-element, texts-text}
use Rattle.ordered_tree.proofs.RowLemmas.{Step, step, step-link, row-link, row-next, left-next, smaller-next, held-here, not-free, row-here, inner-here, smaller-here, node_at-is}
use Rattle.ordered_tree.proofs.SlotsLemmas.{from_link-none}
use Rattle.ordered_tree.specs.steps.Parts.{slot_of}
use Rattle.ordered_tree.proofs.leaves.+leaves.Goals as goal

-- ---- add_all_leaves

pub add_all_leaves-get-requires : goal.add_all_leaves-get-requires
add_all_leaves-get-requires t c =
    let slots = c.args.slots.now in
    let st : Step slots c.in-Some.here = step slots c.in-Some.here (subst (IsRow slots) c.in-Some.is c.loop-link.invariant.left) in
    omega (arith, st.here)

pub add_all_leaves-loop-link-smaller : goal.add_all_leaves-loop-link-smaller
add_all_leaves-loop-link-smaller t c =
    let slots = c.args.slots.now in
    smaller-next slots c.loop-link.link c.in-Some.here c.loop-link.invariant.left c.in-Some.is (slot_of c.get.result) c.get.ensures

pub add_all_leaves-loop-link-preserved : goal.add_all_leaves-loop-link-preserved
add_all_leaves-loop-link-preserved t c =
    let slots = c.args.slots.now in
    let link = c.loop-link.link in
    let left = c.loop-link.invariant.left in
    let s = (slot_of c.get.result) in
    let st = step-link slots link c.in-Some.here left c.in-Some.is s c.get.ensures in
    let rest : row slots s.around.next ≡ st.ns = row-next slots link c.in-Some.here left c.in-Some.is s c.get.ensures in
    let all : row slots link ≡ child_then st.n st.ns = row-link slots link c.in-Some.here left c.in-Some.is s c.get.ensures in
    let before = c.loop-link.before in
    let one : texts (node_at slots c.in-Some.here) ≡ texts st.n = ap texts (node_at-is slots c.in-Some.here st) in
    let last : c.in_ok-before.before ≡ last_leaf before (texts st.n) = c.in_ok-before.ensures.last ∙ ap (last_leaf before) one in
    record {
      left = left-next slots link c.in-Some.here left c.in-Some.is s c.get.ensures;
      done = ap₂ (λ l ns. l ++ leaves_after c.in_ok-before.before (texts_of ns)) (c.in_ok-before.ensures.leaves ∙ ap (λ ts. c.loop-link.leaves ++ leaves_after before ts) one) rest
          ∙ ap (λ b. (c.loop-link.leaves ++ leaves_after before (texts st.n)) ++ leaves_after b (texts_of st.ns)) last
          ∙ append_assoc c.loop-link.leaves (leaves_after before (texts st.n)) _
          ∙ ap (λ l. c.loop-link.leaves ++ l) (sym (leaves_after-append (texts st.n) (texts_of st.ns) before))
          ∙ ap (λ ns. c.loop-link.leaves ++ leaves_after before (texts_of ns)) (sym all)
          ∙ c.loop-link.invariant.done;
      last = ap₂ (λ b ns. last_leaf b (texts_of ns)) last rest
          ∙ sym (last_leaf-append (texts st.n) (texts_of st.ns) before)
          ∙ ap (λ ns. last_leaf before (texts_of ns)) (sym all)
          ∙ c.loop-link.invariant.last;
      fewer = omega (arith, c.loop-link.invariant.fewer, ap (λ ns. nodes_count (plain_children ns)) rest, ap (λ ns. nodes_count (plain_children ns)) all);
    }

pub add_all_leaves-returns-clause-leaves : goal.add_all_leaves-returns-clause-leaves
add_all_leaves-returns-clause-leaves t c =
    let slots = c.args.slots.now in
    let none : row slots c.loop-link.link ≡ no_children = ap (row slots) c.in_default.is ∙ from_link-none slots (length slots) in
    sym (append-nil c.loop-link.leaves) ∙ ap (λ l. c.loop-link.leaves ++ l) (sym (leaves_after-nil c.loop-link.before))
    ∙ ap (λ ns. c.loop-link.leaves ++ leaves_after c.loop-link.before (texts_of ns)) (sym none) ∙ c.loop-link.invariant.done

pub add_all_leaves-returns-clause-last : goal.add_all_leaves-returns-clause-last
add_all_leaves-returns-clause-last t c =
    let slots = c.args.slots.now in
    let none : row slots c.loop-link.link ≡ no_children = ap (row slots) c.in_default.is ∙ from_link-none slots (length slots) in
    sym (last_leaf-nil c.loop-link.before) ∙ ap (λ ns. last_leaf c.loop-link.before (texts_of ns)) (sym none) ∙ c.loop-link.invariant.last

-- ---- add_leaves

pub add_leaves-get-slot-requires : goal.add_leaves-get-slot-requires
add_leaves-get-slot-requires t c =
    let st : Step c.args.slots.now c.args.here = step c.args.slots.now c.args.here c.requires in
    omega (arith, st.here)

pub add_leaves-add_all_leaves-requires : goal.add_leaves-add_all_leaves-requires
add_leaves-add_all_leaves-requires t c =
    let slots = c.args.slots.now in
    let s = (slot_of c.get-slot.result) in
    (omega (arith, c.decreases, smaller-here slots c.args.here c.requires s c.get-slot.ensures c.in-Element.name c.in-Element.attrs c.in-Element.is), inner-here slots c.args.here c.requires s c.get-slot.ensures)

text-is : (t : ℕ) (c : goal.add_leaves-In_ok-push_leaf-in-Text t) → texts (node_at c.args.slots.now c.args.here) ≡ (c.args.here, c.in-Text.text) ∷ []
text-is t c =
    let slots = c.args.slots.now in
    let s = (slot_of c.get-slot.result) in
    let st : Step slots c.args.here = step slots c.args.here c.requires in
    let is : held st.n ≡ Text c.in-Text.text = held-here slots c.args.here c.requires s c.get-slot.ensures (Text c.in-Text.text) c.in-Text.is in
    ap texts (node_at-is slots c.args.here st) ∙ texts-text st.n c.in-Text.text is ∙ ap (λ r. (r, c.in-Text.text) ∷ []) st.refers

pub add_leaves-returns-in_ok-push_leaf-in-Text-clause-leaves : goal.add_leaves-returns-in_ok-push_leaf-in-Text-clause-leaves
unfolding leaves_after
add_leaves-returns-in_ok-push_leaf-in-Text-clause-leaves t c =
    c.in_ok-push_leaf-in-Text.ensures
    ∙ ap (λ b. c.args.leaves.now ++ record { leaf = leaf_of c.args.here; after = c.args.last; words = words b } ∷ []) c.as_str.ensures
    ∙ ap (λ ts. c.args.leaves.now ++ leaves_after c.args.last ts) (sym (text-is t c))

pub add_leaves-returns-in_ok-push_leaf-in-Text-clause-last : goal.add_leaves-returns-in_ok-push_leaf-in-Text-clause-last
unfolding last_leaf
add_leaves-returns-in_ok-push_leaf-in-Text-clause-last t c = ap (last_leaf c.args.last) (sym (text-is t c))

element-is : (t : ℕ) (c : goal.add_leaves-After-add_all_leaves t) → texts_of (row c.args.slots.now (slot_of c.get-slot.result).first_child) ≡ texts (node_at c.args.slots.now c.args.here)
element-is t c =
    let slots = c.args.slots.now in
    let s = (slot_of c.get-slot.result) in
    let st : Step slots c.args.here = step slots c.args.here c.requires in
    let is : held st.n ≡ Element c.in-Element.name c.in-Element.attrs = held-here slots c.args.here c.requires s c.get-slot.ensures (Element c.in-Element.name c.in-Element.attrs) c.in-Element.is in
    ap texts_of (row-here slots c.args.here c.requires s c.get-slot.ensures) ∙ sym (texts-element st.n c.in-Element.name c.in-Element.attrs is) ∙ sym (ap texts (node_at-is slots c.args.here st))

pub add_leaves-returns-in-Element-clause-leaves : goal.add_leaves-returns-in-Element-clause-leaves
add_leaves-returns-in-Element-clause-leaves t c =
    subst (λ ts. OnOk c.add_all_leaves.result (c.add_all_leaves.new.leaves ≡ c.args.leaves.now ++ leaves_after c.args.last ts)) (element-is t c) c.add_all_leaves.ensures.leaves

pub add_leaves-returns-in-Element-clause-last : goal.add_leaves-returns-in-Element-clause-last
add_leaves-returns-in-Element-clause-last t c =
    subst (λ ts. IfOk c.add_all_leaves.result (λ new. new ≡ last_leaf c.args.last ts)) (element-is t c) c.add_all_leaves.ensures.last

pub add_leaves-unreachable-requires : goal.add_leaves-unreachable-requires
add_leaves-unreachable-requires t c = not-free c.args.slots.now c.args.here c.requires (slot_of c.get-slot.result) c.get-slot.ensures c.in-Free.is
