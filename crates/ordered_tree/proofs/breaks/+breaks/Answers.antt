-- A text is passed as it is known, an element by its tags and its children, and each link leads to the next sibling until there is none.
use Rattle.std.proofs.Common.{◌≡◌, ◌+◌, [], ◌∷◌, ◌++◌, length, sym, ap, ◌∙◌, subst, arith, append_assoc, OnOk}
use Rattle.doc_grammar.specs.Limits.{nodes_count}
use Rattle.plain_tree.specs.Document.{element, text}
use Rattle.tokenizer.specs.Parts.{events_of, gap_tag, parts}
use Rattle.tokenizer.specs.steps.StartsLeft.{sentences_in, paragraphs_in, words_seen}
use Rattle.ordered_tree.specs.Counts.{word_count, word_counts}
use Rattle.ordered_tree.specs.Numbered.{plain, plain_children, no_children, child_then, children}
use Rattle.ordered_tree.specs.Slots.{IsRow, held, row, node_at}
use Rattle.ordered_tree.specs.declared.slot.Held.TheVariants.{Element, Text}
use Rattle.ordered_tree.specs.steps.Gathering.{parts_of}
use Rattle.ordered_tree.specs.steps.Parts.{slot_of}
use Rattle.ordered_tree.specs.steps.Passing.{Passes}
use Rattle.ordered_tree.proofs.PassingLemmas.{Passes-element}
use Rattle.ordered_tree.proofs.RowLemmas.{Step, step, step-link, row-link, row-next, left-next, smaller-next, held-here, not-free, row-here, inner-here, smaller-here, node_at-is, plain-element, plain-text}
use Rattle.ordered_tree.proofs.ShiftLemmas.{parts_of-then}
use Rattle.ordered_tree.proofs.SlotsLemmas.{from_link-none}
use Rattle.ordered_tree.proofs.breaks.+breaks.Goals as goal

-- ---- pass_nodes

pub pass_nodes-get-slot-requires : goal.pass_nodes-get-slot-requires
pass_nodes-get-slot-requires t c =
    let slots = c.args.slots.now in
    let st : Step slots c.in-Some.here = step slots c.in-Some.here (subst (IsRow slots) c.in-Some.is c.loop-link.invariant.left) in
    omega (arith, st.here)

pub pass_nodes-pass_node-requires : goal.pass_nodes-pass_node-requires
pass_nodes-pass_node-requires t c =
    let slots = c.args.slots.now in
    let link = c.loop-link.link in
    let left = c.loop-link.invariant.left in
    let s = slot_of c.get-slot.result in
    let st = step-link slots link c.in-Some.here left c.in-Some.is s c.get-slot.ensures in
    let all : row slots link ≡ child_then st.n st.ns = row-link slots link c.in-Some.here left c.in-Some.is s c.get-slot.ensures in (
      omega (arith, c.decreases, c.loop-link.invariant.fewer, ap (λ l. nodes_count (plain_children (row slots l))) c.in-Some.is),
      (
        subst (IsRow slots) c.in-Some.is left,
        (
          c.get-slot.ensures,
          omega (
            arith,
            c.requires.few,
            c.loop-link.invariant.counted,
            ap (λ n. word_count (plain n)) (node_at-is slots c.in-Some.here st),
            ap (λ ns. word_counts (plain_children ns)) all,
          ),
        ),
      ),
    )

pub pass_nodes-loop-link-smaller : goal.pass_nodes-loop-link-smaller
pass_nodes-loop-link-smaller t c =
    let slots = c.args.slots.now in
    smaller-next slots c.loop-link.link c.in-Some.here c.loop-link.invariant.left c.in-Some.is (slot_of c.get-slot.result) c.get-slot.ensures

pub pass_nodes-loop-link-preserved : goal.pass_nodes-loop-link-preserved
pass_nodes-loop-link-preserved t c =
    let slots = c.args.slots.now in
    let abbreviations = c.args.abbreviations.now in
    let link = c.loop-link.link in
    let left = c.loop-link.invariant.left in
    let s = slot_of c.get-slot.result in
    let st = step-link slots link c.in-Some.here left c.in-Some.is s c.get-slot.ensures in
    let rest-is : row slots s.around.next ≡ st.ns = row-next slots link c.in-Some.here left c.in-Some.is s c.get-slot.ensures in
    let all : row slots link ≡ child_then st.n st.ns = row-link slots link c.in-Some.here left c.in-Some.is s c.get-slot.ensures in
    let old = c.loop-link.starts in
    let new = c.pass_node.new.starts in
    let one : Passes old (parts abbreviations (plain st.n)) new = subst (λ n. Passes old (parts abbreviations (plain n)) new) (node_at-is slots c.in-Some.here st) c.in_ok-pass_node.ensures.passed in
    let prefix : parts_of abbreviations (plain_children (row slots link)) ≡ parts abbreviations (plain st.n) ++ parts_of abbreviations (plain_children st.ns) =
    ap (λ ns. parts_of abbreviations (plain_children ns)) all ∙ parts_of-then abbreviations (plain st.n) (plain_children st.ns) in
    record {
      left = left-next slots link c.in-Some.here left c.in-Some.is s c.get-slot.ensures;
      sentences = λ rest. c.loop-link.invariant.sentences rest ∙ ap (λ ps. sentences_in old (ps ++ rest)) prefix
          ∙ ap (sentences_in old) (append_assoc (parts abbreviations (plain st.n)) (parts_of abbreviations (plain_children st.ns)) rest) ∙ one.sentences (parts_of abbreviations (plain_children st.ns) ++ rest)
          ∙ ap (λ ns. sentences_in new (parts_of abbreviations (plain_children ns) ++ rest)) (sym rest-is);
      paragraphs = λ rest. c.loop-link.invariant.paragraphs rest ∙ ap (λ ps. paragraphs_in old (ps ++ rest)) prefix
          ∙ ap (paragraphs_in old) (append_assoc (parts abbreviations (plain st.n)) (parts_of abbreviations (plain_children st.ns)) rest) ∙ one.paragraphs (parts_of abbreviations (plain_children st.ns) ++ rest)
          ∙ ap (λ ns. paragraphs_in new (parts_of abbreviations (plain_children ns) ++ rest)) (sym rest-is);
      counted = omega (
        arith,
        c.loop-link.invariant.counted,
        c.in_ok-pass_node.ensures.counted,
        ap (λ n. word_count (plain n)) (node_at-is slots c.in-Some.here st),
        ap (λ ns. word_counts (plain_children ns)) rest-is,
        ap (λ ns. word_counts (plain_children ns)) all,
      );
      fewer = omega (arith, c.loop-link.invariant.fewer, ap (λ ns. nodes_count (plain_children ns)) rest-is, ap (λ ns. nodes_count (plain_children ns)) all);
    }

pub pass_nodes-returns-clause-passed : goal.pass_nodes-returns-clause-passed
unfolding events_of
pass_nodes-returns-clause-passed t c =
    let slots = c.args.slots.now in
    let abbreviations = c.args.abbreviations.now in
    let starts = c.loop-link.starts in
    let none : row slots c.loop-link.link ≡ no_children = ap (row slots) c.in_default.is ∙ from_link-none slots (length slots) in
    record {
      sentences = λ rest. c.loop-link.invariant.sentences rest ∙ ap (λ ns. sentences_in starts (parts_of abbreviations (plain_children ns) ++ rest)) none;
      paragraphs = λ rest. c.loop-link.invariant.paragraphs rest ∙ ap (λ ns. paragraphs_in starts (parts_of abbreviations (plain_children ns) ++ rest)) none;
    }

pub pass_nodes-returns-clause-counted : goal.pass_nodes-returns-clause-counted
pass_nodes-returns-clause-counted t c =
    let slots = c.args.slots.now in
    let none : row slots c.loop-link.link ≡ no_children = ap (row slots) c.in_default.is ∙ from_link-none slots (length slots) in
    omega (arith, c.loop-link.invariant.counted, ap (λ ns. word_counts (plain_children ns)) none)

-- ---- pass_node

pub pass_node-unreachable-requires : goal.pass_node-unreachable-requires
pass_node-unreachable-requires t c = not-free c.args.slots.now c.args.here c.requires.row (slot_of c.args.slot) c.requires.slot c.in-Free.is

pub pass_node-pass_nodes-requires : goal.pass_node-pass_nodes-requires
pass_node-pass_nodes-requires t c =
    let slots = c.args.slots.now in
    let s = slot_of c.args.slot in
    let one = c.requires.row in
    let name = c.in-Element.name in
    let attrs = c.in-Element.attrs in
    let st : Step slots c.args.here = step slots c.args.here one in
    let is : held st.n ≡ Element name attrs = held-here slots c.args.here one s c.requires.slot (Element name attrs) c.in-Element.is in
    let words : word_counts (plain_children (row slots s.first_child)) ≡ word_count (plain (node_at slots c.args.here)) =
    ap (λ ns. word_counts (plain_children ns)) (row-here slots c.args.here one s c.requires.slot)
    ∙ sym (ap word_count (plain-element st.n name attrs is))
    ∙ sym (ap (λ n. word_count (plain n)) (node_at-is slots c.args.here st)) in (
      omega (arith, c.decreases, smaller-here slots c.args.here one s c.requires.slot name attrs c.in-Element.is),
      (inner-here slots c.args.here one s c.requires.slot, omega (arith, words, c.pass_tag.ensures.words, c.requires.few)),
    )

pub pass_node-pass_text-requires : goal.pass_node-pass_text-requires
pass_node-pass_text-requires t c =
    let slots = c.args.slots.now in
    let s = slot_of c.args.slot in
    let st : Step slots c.args.here = step slots c.args.here c.requires.row in
    let is : held st.n ≡ Text c.in-Text.text = held-here slots c.args.here c.requires.row s c.requires.slot (Text c.in-Text.text) c.in-Text.is in
    let one : text c.in-Text.text ≡ plain (node_at slots c.args.here) = sym (plain-text st.n c.in-Text.text is) ∙ sym (ap plain (node_at-is slots c.args.here st)) in
    omega (arith, c.requires.few, ap word_count one)

pub pass_node-returns-in-Text-clause-counted : goal.pass_node-returns-in-Text-clause-counted
pass_node-returns-in-Text-clause-counted t c =
    let slots = c.args.slots.now in
    let s = slot_of c.args.slot in
    let st : Step slots c.args.here = step slots c.args.here c.requires.row in
    let is : held st.n ≡ Text c.in-Text.text = held-here slots c.args.here c.requires.row s c.requires.slot (Text c.in-Text.text) c.in-Text.is in
    let one : text c.in-Text.text ≡ plain (node_at slots c.args.here) = sym (plain-text st.n c.in-Text.text is) ∙ sym (ap plain (node_at-is slots c.args.here st)) in
    subst (λ n. OnOk c.pass_text.result (words_seen c.pass_text.new.starts ≡ words_seen c.args.starts.now + word_count n)) one c.pass_text.ensures.counted

pub pass_node-returns-in_ok-pass_nodes-in-Element-clause-counted : goal.pass_node-returns-in_ok-pass_nodes-in-Element-clause-counted
pass_node-returns-in_ok-pass_nodes-in-Element-clause-counted t c =
    let slots = c.args.slots.now in
    let s = slot_of c.args.slot in
    let one = c.requires.row in
    let name = c.in-Element.name in
    let attrs = c.in-Element.attrs in
    let st : Step slots c.args.here = step slots c.args.here one in
    let is : held st.n ≡ Element name attrs = held-here slots c.args.here one s c.requires.slot (Element name attrs) c.in-Element.is in
    let words : word_counts (plain_children (row slots s.first_child)) ≡ word_count (plain (node_at slots c.args.here)) =
    ap (λ ns. word_counts (plain_children ns)) (row-here slots c.args.here one s c.requires.slot)
    ∙ sym (ap word_count (plain-element st.n name attrs is))
    ∙ sym (ap (λ n. word_count (plain n)) (node_at-is slots c.args.here st)) in
    omega (arith, words, c.pass_tag.ensures.words, c.in_ok-pass_nodes-in-Element.ensures.counted, c.pass_tag-in-Element.ensures.words)

pub pass_node-returns-in-Text-clause-passed : goal.pass_node-returns-in-Text-clause-passed
pass_node-returns-in-Text-clause-passed t c =
    let slots = c.args.slots.now in
    let abbreviations = c.args.abbreviations.now in
    let s = slot_of c.args.slot in
    let st : Step slots c.args.here = step slots c.args.here c.requires.row in
    let is : held st.n ≡ Text c.in-Text.text = held-here slots c.args.here c.requires.row s c.requires.slot (Text c.in-Text.text) c.in-Text.is in
    let one : text c.in-Text.text ≡ plain (node_at slots c.args.here) = sym (plain-text st.n c.in-Text.text is) ∙ sym (ap plain (node_at-is slots c.args.here st)) in
    subst (λ n. OnOk c.pass_text.result (Passes c.args.starts.now (parts abbreviations n) c.pass_text.new.starts)) one c.pass_text.ensures.passed

pub pass_node-returns-in_ok-pass_nodes-in-Element-clause-passed : goal.pass_node-returns-in_ok-pass_nodes-in-Element-clause-passed
pass_node-returns-in_ok-pass_nodes-in-Element-clause-passed t c =
    let slots = c.args.slots.now in
    let abbreviations = c.args.abbreviations.now in
    let s = slot_of c.args.slot in
    let name = c.in-Element.name in
    let attrs = c.in-Element.attrs in
    let st : Step slots c.args.here = step slots c.args.here c.requires.row in
    let is : held st.n ≡ Element name attrs = held-here slots c.args.here c.requires.row s c.requires.slot (Element name attrs) c.in-Element.is in
    let kids = plain_children (children st.n) in
    let one : element name attrs kids ≡ plain (node_at slots c.args.here) = sym (plain-element st.n name attrs is) ∙ sym (ap plain (node_at-is slots c.args.here st)) in
    let first = c.pass_tag.new.self in
    let last = c.pass_nodes.new.starts in
    let open' : Passes c.args.starts.now (gap_tag name ∷ []) first =
    subst (λ n. Passes c.args.starts.now (gap_tag n ∷ []) first) c.as_str.ensures (record { sentences = c.pass_tag.ensures.sentences; paragraphs = c.pass_tag.ensures.paragraphs }) in
    let inner : Passes first (parts_of abbreviations kids) last =
    subst (λ ns. Passes first (parts_of abbreviations (plain_children ns)) last) (row-here slots c.args.here c.requires.row s c.requires.slot) c.in_ok-pass_nodes-in-Element.ensures.passed in
    let close : Passes last (gap_tag name ∷ []) c.pass_tag-in-Element.new.self =
    subst (λ n. Passes last (gap_tag n ∷ []) c.pass_tag-in-Element.new.self) c.as_str-in-Element.ensures
    (record { sentences = c.pass_tag-in-Element.ensures.sentences; paragraphs = c.pass_tag-in-Element.ensures.paragraphs }) in
    subst (λ n. Passes c.args.starts.now (parts abbreviations n) c.pass_tag-in-Element.new.self) one
    (Passes-element abbreviations c.args.starts.now first last c.pass_tag-in-Element.new.self name attrs kids open' inner close)
