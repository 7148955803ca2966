-- Slots that hold what stands round each node stand for its document.
use Rattle.std.proofs.Common.{◌≡◌, ℕ, zero, suc, ◌+◌, ◌<◌, ◌≤◌, true, List, [], ◌∷◌, ◌++◌, Some, None, map, length, get_or, refl, sym, ap, ap₂, ◌∙◌, arith, append-nil, subst}
use Rattle.std.specs.List.{All, AllPairs}
use Rattle.std.proofs.Math.Logic.{◌≢◌}
use Rattle.std.proofs.lemmas.List.{get_or-map, length-map, map-append}
use Rattle.std.proofs.lemmas.List.Elements.{All-nil, All-cons, All-head, All-tail, All-same}
use Rattle.doc_grammar.specs.Limits.{node_count, nodes_count}
use Rattle.plain_tree.specs.Document.{Node, element, text, Nodes, no_nodes, node_then, is_document}
use Rattle.ordered_tree.specs.Counts.{word_count}
use Rattle.ordered_tree.specs.Numbered.{Numbered, element_at, text_at, Children, no_children, child_then, plain, plain_children, reference, first_of}
use Rattle.ordered_tree.specs.Numbering.{numbered, children_numbered}
use Rattle.ordered_tree.specs.Slots.{slot, slot_at, no_slot, IsIn, root_ref, node_held, from_link, first_child_or, root_of, free_from, IsDocument}
use Rattle.ordered_tree.specs.Stands.{Stand, round_root, round_first, round_next, stands, child_stands, stands_in, references}
use Rattle.ordered_tree.specs.declared.around.Around.{Around}
use Rattle.ft_base.specs.declared.ids.NodeRef.{NodeRef}
use Rattle.ordered_tree.specs.declared.slot.Slot.{Slot}
use Rattle.ordered_tree.proofs.BuildingLemmas.{plain-numbered, reference-numbered, length-stands, length-filled-root}

-- ---- what holds of a list's elements holds of those of its parts

module _ {X : Type 0} (P : X → Type 0) where
  pub All-left : (xs ys : List X) → All P (xs ++ ys) → All P xs
  All-left [] ys h = All-nil P
  All-left (x ∷ xs) ys h = All-cons P x xs (All-head P x (xs ++ ys) h) (All-left xs ys (All-tail P x (xs ++ ys) h))

  pub All-right : (xs ys : List X) → All P (xs ++ ys) → All P ys
  All-right [] ys h = h
  All-right (x ∷ xs) ys h = All-right xs ys (All-tail P x (xs ++ ys) h)

-- ---- following the links gives the document

pub some_node : (n : Numbered) → 1 ≤ node_count (plain n)
some_node (element_at r name attrs kids) = omega arith
some_node (text_at r bytes) = omega arith

module _ (slots : List Slot) where
  -- the slot of a node, of which all below it is there
  pub slot_of-stands : (n : Numbered) (a : Around) → All (IsIn slots) (stands a n) → IsIn slots (record { node = n; around = a })
  unfolding stands
  slot_of-stands (element_at r name attrs kids) a h = All-head (IsIn slots) _ (child_stands (round_first a.before r) kids) h
  slot_of-stands (text_at r bytes) a h = All-head (IsIn slots) _ [] h

  pub below-stands : (r : NodeRef) (name : List ℕ) (attrs : _) (kids : Children) (a : Around) → All (IsIn slots) (stands a (element_at r name attrs kids)) → All (IsIn slots) (child_stands (round_first a.before r) kids)
  unfolding stands
  below-stands r name attrs kids a h = All-tail (IsIn slots) (record { node = element_at r name attrs kids; around = a }) (child_stands (round_first a.before r) kids) h

  module _ (n : Numbered) (ns : Children) (a : Around) (h : All (IsIn slots) (child_stands a (child_then n ns))) where
    pub first-child_stands : All (IsIn slots) (stands (record a { next = first_of ns }) n)
    unfolding child_stands
    first-child_stands = All-left (IsIn slots) (stands (record a { next = first_of ns }) n) (child_stands (round_next a n) ns) h

    pub rest-child_stands : All (IsIn slots) (child_stands (round_next a n) ns)
    unfolding child_stands
    rest-child_stands = All-right (IsIn slots) (stands (record a { next = first_of ns }) n) (child_stands (round_next a n) ns) h

  pub slot_at-stands : (n : Numbered) (a : Around) → All (IsIn slots) (stands a n) → slot_at slots (reference n) ≡ slot (record { node = n; around = a })
  slot_at-stands n a h = let i : IsIn slots (record { node = n; around = a }) = slot_of-stands n a h in i.holds no_slot

  mutual
    unfolding from_link

    pub from_link-children : (ns : Children) (a : Around) (far : ℕ) → nodes_count (plain_children ns) ≤ far → All (IsIn slots) (child_stands a ns) → from_link far slots (first_of ns) ≡ ns
    from_link-children no_children a zero few h = refl
    from_link-children no_children a (suc far) few h = refl
    from_link-children (child_then n ns) a zero few h = let some : 1 ≤ node_count (plain n) = some_node n in absurd (omega arith)
    from_link-children (child_then n ns) a (suc far) few h =
        let some : 1 ≤ node_count (plain n) = some_node n in
        let here : slot_at slots (reference n) ≡ slot (record { node = n; around = record a { next = first_of ns } }) =
        slot_at-stands n (record a { next = first_of ns }) (first-child_stands n ns a h) in
        ap (λ s. child_then (node_held (reference n) s.held (from_link far slots s.first_child)) (from_link far slots s.around.next)) here
        ∙ ap₂ child_then (from_link-node n (record a { next = first_of ns }) far (omega arith) (first-child_stands n ns a h))
        (from_link-children ns (round_next a n) far (omega arith) (rest-child_stands n ns a h))

    from_link-node : (n : Numbered) (a : Around) (far : ℕ) → node_count (plain n) ≤ suc far → All (IsIn slots) (stands a n)
        → node_held (reference n) (slot (record { node = n; around = a })).held (from_link far slots (slot (record { node = n; around = a })).first_child) ≡ n
    from_link-node (element_at r name attrs kids) a far few h =
        ap (element_at r name attrs) (from_link-children kids (round_first a.before r) far (omega arith) (below-stands r name attrs kids a h))
    from_link-node (text_at r bytes) a far few h = refl

  pub root_of-is : (n : Numbered) → reference n ≡ root_ref → node_count (plain n) ≤ length slots → All (IsIn slots) (stands_in n) → root_of slots ≡ n
  unfolding root_of child_stands
  root_of-is n rooted few h =
      ap (λ r. first_child_or (text_at root_ref []) (from_link (length slots) slots (Some r))) (sym rooted)
      ∙ ap (first_child_or (text_at root_ref [])) (from_link-children (child_then n no_children) round_root (length slots) (omega arith)
      (All-same (IsIn slots) _ (stands round_root n) (append-nil (stands round_root n)) h))

  pub from_link-none : (far : ℕ) → from_link far slots None ≡ no_children
  unfolding from_link
  from_link-none zero = refl
  from_link-none (suc far) = refl

  -- ---- nothing is free

  pub free_from-none : (far : ℕ) → free_from far slots None ≡ []
  unfolding free_from
  free_from-none zero = refl
  free_from-none (suc far) = refl

-- ---- references in document order

abbrev pub consecutive : ℕ → ℕ → List NodeRef
consecutive start zero = []
consecutive start (suc count) = record { 0 = start } ∷ consecutive (suc start) count

pub consecutive-append : (c : ℕ) (d s : ℕ) → consecutive s (c + d) ≡ consecutive s c ++ consecutive (s + c) d
consecutive-append zero d s = let e : 0 + d ≡ d = omega arith in let f : s + 0 ≡ s = omega arith in rw (e, f) refl
consecutive-append (suc c) d s =
    let e : suc c + d ≡ suc (c + d) = omega arith in
    let f : s + suc c ≡ suc s + c = omega arith in
    rw (e, f) (ap (λ l. record { 0 = s } ∷ l) (consecutive-append c d (suc s)))

pub length-consecutive : (c : ℕ) (s : ℕ) → length (consecutive s c) ≡ c
length-consecutive zero s = refl
length-consecutive (suc c) s = ap suc (length-consecutive c (suc s))

pub get_or-consecutive : (c : ℕ) (s i : ℕ) (d : NodeRef) → i < c → get_or (consecutive s c) i d ≡ record { 0 = s + i }
get_or-consecutive zero s i d lt = absurd (omega arith)
get_or-consecutive (suc c) s zero d lt = let e : s ≡ s + 0 = omega arith in ap (λ x. record { 0 = x }) e
get_or-consecutive (suc c) s (suc i) d lt =
    get_or-consecutive c (suc s) i d (omega arith) ∙ (let e : suc s + i ≡ s + suc i = omega arith in ap (λ x. record { 0 = x }) e)

mutual
  unfolding stands child_stands numbered children_numbered

  pub references-stands : (n : Node) (a : Around) (s : ℕ) → map (λ x. reference x.node) (stands a (numbered s n)) ≡ consecutive s (node_count n)
  references-stands (element name attrs kids) a s =
      let e : 1 + nodes_count kids ≡ suc (nodes_count kids) = omega arith in
      rw e (ap (λ l. record { 0 = s } ∷ l) (references-child_stands kids (round_first a.before (record { 0 = s })) (suc s)))
  references-stands (text bytes) a s = refl

  references-child_stands : (ns : Nodes) (a : Around) (s : ℕ) → map (λ x. reference x.node) (child_stands a (children_numbered s ns)) ≡ consecutive s (nodes_count ns)
  references-child_stands no_nodes a s = refl
  references-child_stands (node_then n ns) a s =
      map-append (λ x. reference x.node) (stands (record a { next = first_of (children_numbered (s + node_count n) ns) }) (numbered s n)) _
      ∙ ap₂ (λ xs ys. xs ++ ys) (references-stands n (record a { next = first_of (children_numbered (s + node_count n) ns) }) s)
      (references-child_stands ns (round_next a (numbered s n)) (s + node_count n))
      ∙ sym (consecutive-append (node_count n) (nodes_count ns) s)

-- ---- the slots of a document in document order

in_order : (slots : List Slot) (xs : List Stand) (c : ℕ) → length xs ≡ c → slots ≡ map slot xs → map (λ x. reference x.node) xs ≡ consecutive 0 c → All (IsIn slots) xs
in_order slots xs c long filled refs k d lt =
    let s : Stand = get_or xs k d in
    let at : reference s.node ≡ record { 0 = 0 + k } =
    sym (get_or-map (λ x. reference x.node) xs k d (reference d.node) lt) ∙ ap (λ l. get_or l k (reference d.node)) refs ∙ get_or-consecutive c 0 k (reference d.node) (omega arith) in
    let same : (reference s.node).0 ≡ k = ap (λ r. r.0) at ∙ omega arith in
    let count : length slots ≡ length xs = ap length filled ∙ length-map xs slot in
    record {
      here = omega arith;
      holds = λ e. ap₂ (λ l i. get_or l i e) filled same ∙ get_or-map slot xs k d e lt;
    }

apart-consecutive : (c : ℕ) → AllPairs (λ a b. a ≢ b) (consecutive 0 c)
apart-consecutive c i j d lt more same =
    let long : length (consecutive 0 c) ≡ c = length-consecutive c 0 in
    let e : i ≡ j = omega (arith, ap (λ r. r.0) (sym (get_or-consecutive c 0 i d (omega arith)) ∙ same ∙ get_or-consecutive c 0 j d (omega arith))) in
    absurd (omega arith)

pub IsDocument-numbered : (slots : List Slot) (n : Node) → is_document n ≡ true → slots ≡ map slot (stands_in (numbered 0 n)) → node_count n < 2147483648 → word_count n < 2147483648 → IsDocument slots None (numbered 0 n)
IsDocument-numbered slots n document filled few_nodes few_words =
    let count : length slots ≡ node_count n = length-filled-root slots n filled in
    let refs : references (numbered 0 n) ++ free_from (length slots) slots None ≡ consecutive 0 (node_count n) =
    ap₂ (λ xs ys. xs ++ ys) (references-stands n round_root 0) (free_from-none slots (length slots)) ∙ append-nil _ in
    record {
      document = rw (plain-numbered n 0) document;
      rooted = reference-numbered n 0;
      stands = in_order slots (stands_in (numbered 0 n)) (node_count n) (length-stands n round_root 0) filled (references-stands n round_root 0);
      apart = subst (λ l. AllPairs (λ a b. a ≢ b) l) (sym refs) (apart-consecutive (node_count n));
      whole = ap length refs ∙ length-consecutive (node_count n) 0 ∙ sym count;
      below = All-same (λ r. r.0 < length slots) (free_from (length slots) slots None) [] (free_from-none slots (length slots)) (All-nil (λ r. r.0 < length slots));
      few_slots = omega (arith, count, few_nodes);
      few_nodes = rw (plain-numbered n 0) few_nodes;
      few_words = rw (plain-numbered n 0) few_words;
    }

pub root_of-numbered : (slots : List Slot) (n : Node) → slots ≡ map slot (stands_in (numbered 0 n)) → root_of slots ≡ numbered 0 n
root_of-numbered slots n filled =
    let count : length slots ≡ node_count n = length-filled-root slots n filled in
    let same : node_count (plain (numbered 0 n)) ≡ node_count n = ap node_count (plain-numbered n 0) in
    root_of-is slots (numbered 0 n) (reference-numbered n 0) (omega arith)
    (in_order slots (stands_in (numbered 0 n)) (node_count n) (length-stands n round_root 0) filled (references-stands n round_root 0))
