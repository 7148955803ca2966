-- The slots of a document in document order, one node further, and what they stand for.
use Rattle.std.proofs.Common.{◌≡◌, ℕ, suc, ◌+◌, ◌<◌, ◌≤◌, ◌==◌, Bool, false, List, [], ◌∷◌, ◌++◌, Option, Some, None, map, length, drop, get_or, refl, sym, ap, ap₂, ◌∙◌, arith, append_assoc, length-append, zero, option_map, slice_set, add-one, drop-cons}
use Rattle.std.proofs.lemmas.Bool.Decides.{nat_tests}
use Rattle.std.proofs.lemmas.List.{length-map, get_or_at, set_at, length_push, drop_all, map-append, nil_from_length}
use Rattle.doc_grammar.specs.Limits.{node_count, nodes_count}
use Rattle.plain_tree.specs.Document.{Node, element, text, Nodes, no_nodes, node_then, nodes}
use Rattle.plain_tree.specs.View.{node}
use Rattle.plain_tree.specs.declared.tree.Attr.{Attr}
use Rattle.plain_tree.specs.declared.tree.Tree.{Tree}
use Rattle.text_words.specs.Words.{words}
use Rattle.ordered_tree.specs.Counts.{word_count, word_counts, element_depth, element_depths}
use Rattle.ordered_tree.specs.Numbered.{Children, no_children, child_then, plain, plain_children, reference, first_of, last_from, last_of}
use Rattle.ordered_tree.specs.Numbering.{numbered, children_numbered, next_sibling}
use Rattle.ordered_tree.specs.Slots.{slot, slot_at, no_slot}
use Rattle.ordered_tree.specs.Stands.{stands, child_stands, stands_in, round_root, round_first}
use Rattle.ordered_tree.specs.declared.around.Around.{Around}
use Rattle.ft_base.specs.declared.ids.NodeRef.{NodeRef}
use Rattle.ordered_tree.specs.declared.slot.Held.{Held}
use Rattle.ordered_tree.specs.declared.slot.Held.TheVariants.{Element, Text, Free}
use Rattle.ordered_tree.specs.declared.slot.Slot.{Slot}

-- ---- a numbered document without its references

mutual
  unfolding numbered children_numbered

  pub plain-numbered : (n : Node) (s : ℕ) → plain (numbered s n) ≡ n
  plain-numbered (element name attrs kids) s = ap (element name attrs) (plain_children-numbered kids (suc s))
  plain-numbered (text bytes) s = refl

  plain_children-numbered : (ns : Nodes) (s : ℕ) → plain_children (children_numbered s ns) ≡ ns
  plain_children-numbered no_nodes s = refl
  plain_children-numbered (node_then n ns) s =
      ap₂ node_then (plain-numbered n s) (plain_children-numbered ns (s + node_count n))

pub reference-numbered : (n : Node) (s : ℕ) → reference (numbered s n) ≡ record { 0 = s }
unfolding numbered
reference-numbered (element name attrs kids) s = refl
reference-numbered (text bytes) s = refl

-- ---- how many slots there are

mutual
  unfolding numbered children_numbered stands child_stands

  pub length-stands : (n : Node) (a : Around) (s : ℕ) → length (stands a (numbered s n)) ≡ node_count n
  length-stands (element name attrs kids) a s =
      let e : length (child_stands (round_first a.before (record { 0 = s })) (children_numbered (suc s) kids)) ≡ nodes_count kids = length-child_stands kids (round_first a.before (record { 0 = s })) (suc s) in omega arith
  length-stands (text bytes) a s = refl

  length-child_stands : (ns : Nodes) (a : Around) (s : ℕ) → length (child_stands a (children_numbered s ns)) ≡ nodes_count ns
  length-child_stands no_nodes a s = refl
  length-child_stands (node_then n ns) a s =
      length-append (stands (record a { next = first_of (children_numbered (s + node_count n) ns) }) (numbered s n)) _
      ∙ ap₂ (λ i j. i + j) (length-stands n _ s) (length-child_stands ns _ (s + node_count n))

-- ---- the slots of children, one child further

abbrev pub next_around : Around → ℕ → Node → Around
next_around a s n = record a { previous = Some (record { 0 = s }); number = a.number + 1; before = a.before + word_count n }

child_stands-then : (a : Around) (s : ℕ) (n : Node) (ns : Nodes) → child_stands a (children_numbered s (node_then n ns)) ≡ stands (record a { next = first_of (children_numbered (s + node_count n) ns) }) (numbered s n) ++ child_stands (next_around a s n) (children_numbered (s + node_count n) ns)
unfolding children_numbered child_stands
child_stands-then a s n ns =
    ap₂ (λ r p. stands (record a { next = first_of (children_numbered (s + node_count n) ns) }) (numbered s n)
    ++ child_stands (record a { previous = Some r; number = a.number + 1; before = a.before + word_count p }) (children_numbered (s + node_count n) ns))
    (reference-numbered n s) (plain-numbered n s)

pub next_sibling-first_of : (is_last : Bool) (s : ℕ) (kids : List Tree) → is_last ≡ (length kids == 0) → next_sibling is_last s ≡ first_of (children_numbered s (nodes (map node kids)))
unfolding children_numbered
next_sibling-first_of is_last s [] h = rw h refl
next_sibling-first_of is_last s (k ∷ ks) h =
    let some : (suc (length ks) == 0) ≡ false = grind (arith, nat_tests) in
    rw (h ∙ some) (ap Some (sym (reference-numbered (node k) s)))

module _ (before after : List Slot) (a : Around) (n : Node) (next : Option NodeRef) (done : after ≡ before ++ map slot (stands (record a { next = next }) (numbered (length before) n))) where
  pub length-added : length after ≡ length before + node_count n
  length-added =
      ap length done ∙ length-append before _
      ∙ ap (λ l. length before + l) (length-map (stands (record a { next = next }) (numbered (length before) n)) slot ∙ length-stands n (record a { next = next }) (length before))

  -- the slots so far with those of the children that are left, where one of them is done
  pub slots-next : (ks : List Tree) → next ≡ first_of (children_numbered (length before + node_count n) (nodes (map node ks)))
      → after ++ map slot (child_stands (next_around a (length before) n) (children_numbered (length after) (nodes (map node ks))))
      ≡ before ++ map slot (child_stands a (children_numbered (length before) (node_then n (nodes (map node ks)))))
  slots-next ks is =
      let rest : List Slot = map slot (child_stands (next_around a (length before) n) (children_numbered (length before + node_count n) (nodes (map node ks)))) in
      ap (λ l. after ++ map slot (child_stands (next_around a (length before) n) (children_numbered l (nodes (map node ks))))) length-added
      ∙ ap (λ l. l ++ rest) done ∙ append_assoc before (map slot (stands (record a { next = next }) (numbered (length before) n))) rest
      ∙ ap (λ l. before ++ l) (sym (map-append slot (stands (record a { next = next }) (numbered (length before) n)) _)
      ∙ ap (λ x. map slot (stands (record a { next = x }) (numbered (length before) n)
      ++ child_stands (next_around a (length before) n) (children_numbered (length before + node_count n) (nodes (map node ks))))) is
      ∙ ap (map slot) (sym (child_stands-then a (length before) n (nodes (map node ks)))))

  pub last-next : (ns : Nodes) (previous : Option NodeRef) → last_from (Some (record { 0 = length before })) (children_numbered (length after) ns) ≡ last_from previous (children_numbered (length before) (node_then n ns))
  unfolding children_numbered
  last-next ns previous =
      ap₂ (λ r l. last_from (Some r) (children_numbered l ns)) (sym (reference-numbered n (length before))) length-added

-- ---- the slots of a text, and of an element

pub stands-text : (bytes : List ℕ) (a : Around) (s : ℕ) → map slot (stands a (numbered s (text bytes))) ≡ record { held = Text bytes; around = a; first_child = None; last_child = None; words = length (words bytes) } ∷ []
unfolding numbered stands
stands-text bytes a s = refl

first-of-some : (r : NodeRef) (x : NodeRef) (ns : Children) → option_map (λ _. x) (last_from (Some r) ns) ≡ Some x
first-of-some r x no_children = refl
first-of-some r x (child_then n ns) = first-of-some (reference n) x ns

first_of-last : (s : ℕ) (kids : Nodes) → option_map (λ _. record { 0 = s }) (last_of (children_numbered s kids)) ≡ first_of (children_numbered s kids)
unfolding children_numbered
first_of-last s no_nodes = refl
first_of-last s (node_then n ns) =
    first-of-some (reference (numbered s n)) (record { 0 = s }) (children_numbered (s + node_count n) ns) ∙ ap Some (sym (reference-numbered n s))

stands-element : (name : List ℕ) (attrs : List Attr) (kids : Nodes) (a : Around) (s : ℕ) → map slot (stands a (numbered s (element name attrs kids))) ≡ record { held = Element name attrs; around = a; first_child = first_of (children_numbered (s + 1) kids); last_child = last_of (children_numbered (s + 1) kids); words = word_counts kids } ∷ map slot (child_stands (round_first a.before (record { 0 = s })) (children_numbered (s + 1) kids))
unfolding numbered stands
stands-element name attrs kids a s =
    rw add-one (ap (λ ns. record { held = Element name attrs; around = a; first_child = first_of (children_numbered (suc s) kids); last_child = last_of (children_numbered (suc s) kids); words = word_counts ns }
    ∷ map slot (child_stands (round_first a.before (record { 0 = s })) (children_numbered (suc s) kids))) (plain_children-numbered kids (suc s)))

-- what `finish` puts into the slot of an element
abbrev pub finished : Slot → Held → ℕ → Bool → ℕ → Option NodeRef → ℕ → Slot
finished s put here is_last length last words = record s {
  held = put;
  around = record s.around { next = next_sibling is_last length };
  first_child = option_map (λ _. record { 0 = here + 1 }) last;
  last_child = last;
  words = words;
}

pub element_done : (before opened inner after : List Slot) (here : ℕ) (name : List ℕ) (attrs : List Attr) (kids : Nodes) (a : Around) (is_last : Bool) (last : Option NodeRef) (words : ℕ)
    → here ≡ length before
    → opened ≡ before ++ record { held = Free; around = a; first_child = None; last_child = None; words = 0 } ∷ []
    → inner ≡ opened ++ map slot (child_stands (round_first a.before (record { 0 = here })) (children_numbered (length opened) kids))
    → last ≡ last_of (children_numbered (length opened) kids)
    → words ≡ word_counts kids
    → after ≡ slice_set inner here (finished (slot_at inner (record { 0 = here })) (Element name attrs) here is_last (length inner) last words)
    → after ≡ before ++ map slot (stands (record a { next = next_sibling is_last (length before + node_count (element name attrs kids)) }) (numbered (length before) (element name attrs kids)))
element_done before opened inner after here name attrs kids a is_last last words at open' filled last-is words-are done =
    let put : Held = Element name attrs in
    let first : Slot = record { held = Free; around = a; first_child = None; last_child = None; words = 0 } in
    let rest : List Slot = map slot (child_stands (round_first a.before (record { 0 = length before })) (children_numbered (length before + 1) kids)) in
    let more : length opened ≡ length before + 1 = ap length open' ∙ length_push before first in
    let all : inner ≡ before ++ first ∷ rest =
    filled ∙ ap₂ (λ h l. opened ++ map slot (child_stands (round_first a.before (record { 0 = h })) (children_numbered l kids))) at more
    ∙ ap (λ l. l ++ rest) open' ∙ append_assoc before (first ∷ []) rest in
    let count : length (before ++ first ∷ rest) ≡ length before + (1 + nodes_count kids) =
    length-append before (first ∷ rest) ∙ (let e : length rest ≡ nodes_count kids = length-map (child_stands (round_first a.before (record { 0 = length before })) (children_numbered (length before + 1) kids)) slot ∙ length-child_stands kids (round_first a.before (record { 0 = length before })) (length before + 1) in omega arith) in
    let last-at : last ≡ last_of (children_numbered (length before + 1) kids) = last-is ∙ ap (λ l. last_of (children_numbered l kids)) more in
    done
    ∙ ap (λ l. slice_set l here (finished (slot_at l (record { 0 = here })) put here is_last (length l) last words)) all
    ∙ ap (λ h. slice_set (before ++ first ∷ rest) h (finished (slot_at (before ++ first ∷ rest) (record { 0 = h })) put h is_last (length (before ++ first ∷ rest)) last words)) at
    ∙ set_at before first rest _ (length before) refl
    ∙ ap (λ s. before ++ finished s put (length before) is_last (length (before ++ first ∷ rest)) last words ∷ rest) (get_or_at before first rest no_slot (length before) refl)
    ∙ ap₂ (λ c w. before ++ finished first put (length before) is_last c last w ∷ rest) count words-are
    ∙ ap (λ l. before ++ finished first put (length before) is_last (length before + (1 + nodes_count kids)) l (word_counts kids) ∷ rest) last-at
    ∙ ap (λ f. before ++ record { held = Element name attrs; around = record a { next = next_sibling is_last (length before + (1 + nodes_count kids)) }; first_child = f; last_child = last_of (children_numbered (length before + 1) kids); words = word_counts kids } ∷ rest) (first_of-last (length before + 1) kids)
    ∙ ap (λ l. before ++ l) (sym (stands-element name attrs kids (record a { next = next_sibling is_last (length before + (1 + nodes_count kids)) }) (length before)))

pub length-filled : (opened inner : List Slot) (a : Around) (s : ℕ) (kids : Nodes) → inner ≡ opened ++ map slot (child_stands a (children_numbered s kids)) → length inner ≡ length opened + nodes_count kids
length-filled opened inner a s kids filled =
    ap length filled ∙ length-append opened _
    ∙ ap (λ l. length opened + l) (length-map (child_stands a (children_numbered s kids)) slot ∙ length-child_stands kids a s)

pub length-filled-root : (slots : List Slot) (n : Node) → slots ≡ map slot (stands_in (numbered 0 n)) → length slots ≡ node_count n
length-filled-root slots n filled = ap length filled ∙ length-map (stands_in (numbered 0 n)) slot ∙ length-stands n round_root 0

-- ---- elements in one another are no more than the nodes

mutual
  pub element_depth-count : (n : Node) → element_depth n ≤ node_count n
  element_depth-count (element name attrs kids) = let e : element_depths kids ≤ nodes_count kids = element_depths-count kids in omega arith
  element_depth-count (text bytes) = omega arith

  pub element_depths-count : (ns : Nodes) → element_depths ns ≤ nodes_count ns
  element_depths-count no_nodes = omega arith
  element_depths-count (node_then n ns) =
      let e : element_depth n ≤ node_count n = element_depth-count n in
      let f : element_depths ns ≤ nodes_count ns = element_depths-count ns in
      omega arith

pub node_count-some : (n : Node) → 1 ≤ node_count n
node_count-some (element name attrs kids) = omega arith
node_count-some (text bytes) = omega arith

-- ---- the children that are left, and the first of them

pub drop-next : (kids : List Tree) (i : ℕ) (kid : Tree) → i < length kids → kid ≡ get_or kids i kid → drop i kids ≡ kid ∷ drop (i + 1) kids
drop-next kids i kid more is = rw add-one (drop-cons kids i kid more ∙ ap (λ k. k ∷ drop (suc i) kids) (sym is))

pub kids-done : (kids : List Tree) (i : ℕ) → length kids ≤ i → nodes (map node (drop i kids)) ≡ no_nodes
kids-done kids i done = ap (λ l. nodes (map node l)) (drop_all i kids done)

pub kids-none : (kids : List Tree) (left : ℕ) → left ≡ length kids → left ≡ 0 → nodes (map node kids) ≡ no_nodes
kids-none kids left long none = ap (λ l. nodes (map node l)) (nil_from_length kids (sym long ∙ none))

pub nodes_count-drop : (kids : List Tree) (i : ℕ) → nodes_count (nodes (map node (drop i kids))) ≤ nodes_count (nodes (map node kids))
nodes_count-drop kids zero = omega arith
nodes_count-drop [] (suc i) = omega arith
nodes_count-drop (k ∷ ks) (suc i) = let e : nodes_count (nodes (map node (drop i ks))) ≤ nodes_count (nodes (map node ks)) = nodes_count-drop ks i in omega arith
