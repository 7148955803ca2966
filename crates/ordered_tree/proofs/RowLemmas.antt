-- A node's slot leads to its children and to the siblings after it.
use Rattle.std.proofs.Common.{◌≡◌, ℕ, ◌+◌, ◌<◌, ◌≤◌, List, [], ◌∷◌, Option, Some, None, length, get_or, refl, sym, ap, ap₂, ◌∙◌, arith, append-nil, length-append, subst}
use Rattle.std.specs.List.{All}
use Rattle.std.proofs.lemmas.List.{length-map}
use Rattle.std.proofs.lemmas.List.Elements.{All-nil, All-same}
use Rattle.doc_grammar.specs.Limits.{node_count, nodes_count}
use Rattle.plain_tree.specs.Document.{Node, element, text, node_then, nodes}
use Rattle.ordered_tree.specs.Numbered.{Numbered, element_at, text_at, Children, no_children, child_then, plain, plain_children, reference, children, first_of}
use Rattle.ordered_tree.specs.Slots.{held, root_ref, first_child_or, row, node_at, root_of, free_from, IsIn, IsRow, IsDocument}
use Rattle.ordered_tree.specs.Stands.{round_root, round_first, round_next, stands, child_stands, stands_in, references}
use Rattle.ordered_tree.specs.declared.around.Around.{Around}
use Rattle.ft_base.specs.declared.ids.NodeRef.{NodeRef}
use Rattle.ordered_tree.specs.declared.slot.Held.{Held}
use Rattle.ordered_tree.specs.declared.slot.Held.TheVariants.{Element, Text, Free}
use Rattle.ordered_tree.specs.declared.slot.Slot.{Slot}
use Rattle.ordered_tree.proofs.SlotsLemmas.{some_node, from_link-children, slot_of-stands, below-stands, first-child_stands, rest-child_stands}

-- the node of a reference, with the siblings after it, and where its slot leads
pub record Step (slots : List Slot) (r : NodeRef) : Type 0 where
  pub n : Numbered
  pub ns : Children
  pub refers : reference n ≡ r
  pub row-is : row slots (Some r) ≡ child_then n ns
  pub here : r.0 < length slots
  pub held-is : (d : Slot) → (get_or slots r.0 d).held ≡ held n
  pub first-is : (d : Slot) → (get_or slots r.0 d).first_child ≡ first_of (children n)
  pub next-is : (d : Slot) → (get_or slots r.0 d).around.next ≡ first_of ns
  pub inner : IsRow slots (first_of (children n))
  pub inner-is : row slots (first_of (children n)) ≡ children n
  pub rest : IsRow slots (first_of ns)
  pub rest-is : row slots (first_of ns) ≡ ns

module _ (slots : List Slot) where
  pub row-nodes : (link : Option NodeRef) (i : IsRow slots link) → row slots link ≡ i.nodes
  row-nodes link i = ap (row slots) i.first ∙ from_link-children slots i.nodes i.around (length slots) i.few i.stands

  no-stands : (b : Around) → All (IsIn slots) (child_stands b no_children)
  unfolding child_stands
  no-stands b = All-nil (IsIn slots)

  inner-row : (n : Numbered) (a : Around) → node_count (plain n) ≤ length slots → All (IsIn slots) (stands a n) → IsRow slots (first_of (children n))
  inner-row (element_at r name attrs kids) a few all =
      record { around = round_first a.before r; nodes = kids; first = refl; stands = below-stands slots r name attrs kids a all; few = omega arith }
  inner-row (text_at r bytes) a few all = record { around = a; nodes = no_children; first = refl; stands = no-stands a; few = omega arith }

  inner-nodes : (n : Numbered) (a : Around) (few : node_count (plain n) ≤ length slots) (all : All (IsIn slots) (stands a n)) → row slots (first_of (children n)) ≡ children n
  unfolding inner-row
  inner-nodes (element_at r name attrs kids) a few all =
      from_link-children slots kids (round_first a.before r) (length slots) (omega arith) (below-stands slots r name attrs kids a all)
  inner-nodes (text_at r bytes) a few all = row-nodes None (inner-row (text_at r bytes) a few all)

  step-at : (n : Numbered) (ns : Children) (a : Around) → nodes_count (plain_children (child_then n ns)) ≤ length slots → All (IsIn slots) (child_stands a (child_then n ns)) → Step slots (reference n)
  step-at n ns a few all =
      let b : Around = record a { next = first_of ns } in
      let mine : All (IsIn slots) (stands b n) = first-child_stands slots n ns a all in
      let i : IsIn slots (record { node = n; around = b }) = slot_of-stands slots n b mine in
      let some : 1 ≤ node_count (plain n) = some_node n in
      record {
        n = n;
        ns = ns;
        refers = refl;
        row-is = from_link-children slots (child_then n ns) a (length slots) few all;
        here = i.here;
        held-is = λ d. ap (λ s. s.held) (i.holds d);
        first-is = λ d. ap (λ s. s.first_child) (i.holds d);
        next-is = λ d. ap (λ s. s.around.next) (i.holds d);
        inner = inner-row n b (omega arith) mine;
        inner-is = inner-nodes n b (omega arith) mine;
        rest = record { around = round_next a n; nodes = ns; first = refl; stands = rest-child_stands slots n ns a all; few = omega arith };
        rest-is = from_link-children slots ns (round_next a n) (length slots) (omega arith) (rest-child_stands slots n ns a all);
      }

  step-of : (ns : Children) (a : Around) (r : NodeRef) → Some r ≡ first_of ns → nodes_count (plain_children ns) ≤ length slots → All (IsIn slots) (child_stands a ns) → Step slots r
  step-of no_children a r first few all = cc
  step-of (child_then n ns) a r first few all =
      let same : reference n ≡ r = cc in
      subst (Step slots) same (step-at n ns a few all)

  pub step : (r : NodeRef) → IsRow slots (Some r) → Step slots r
  step r i = step-of i.nodes i.around r i.first i.few i.stands

  pub node_at-is : (r : NodeRef) (s : Step slots r) → node_at slots r ≡ s.n
  node_at-is r s = ap (first_child_or (text_at r [])) s.row-is

  -- the row that is the root alone
  pub root-row : (free : Option NodeRef) → IsDocument slots free (root_of slots) → node_count (plain (root_of slots)) ≤ length slots → IsRow slots (Some root_ref)
  unfolding child_stands
  root-row free d few = record {
    around = round_root;
    nodes = child_then (root_of slots) no_children;
    first = ap Some (sym d.rooted);
    stands = All-same (IsIn slots) _ (stands round_root (root_of slots)) (append-nil (stands round_root (root_of slots))) d.stands;
    few = omega arith;
  }

-- ---- a document has no more nodes than slots

mutual
  unfolding stands child_stands

  pub length-stands_in : (n : Numbered) (a : Around) → length (stands a n) ≡ node_count (plain n)
  length-stands_in (element_at r name attrs kids) a =
      let e : length (child_stands (round_first a.before r) kids) ≡ nodes_count (plain_children kids) = length-child_stands_in kids (round_first a.before r) in omega arith
  length-stands_in (text_at r bytes) a = refl

  length-child_stands_in : (ns : Children) (a : Around) → length (child_stands a ns) ≡ nodes_count (plain_children ns)
  length-child_stands_in no_children a = refl
  length-child_stands_in (child_then n ns) a =
      length-append (stands (record a { next = first_of ns }) n) (child_stands (round_next a n) ns)
      ∙ ap₂ (λ i j. i + j) (length-stands_in n (record a { next = first_of ns })) (length-child_stands_in ns (round_next a n))

pub fits : (slots : List Slot) (free : Option NodeRef) (root : Numbered) → IsDocument slots free root → node_count (plain root) ≤ length slots
fits slots free root d =
    let refs : List NodeRef = references root in
    let spare : List NodeRef = free_from (length slots) slots free in
    let count : length refs ≡ node_count (plain root) = length-map (stands_in root) (λ s. reference s.node) ∙ length-stands_in root round_root in
    let whole = d.whole in
    let both = length-append refs spare in
    omega arith

-- ---- nodes as plain trees

abbrev pub plain_list : Children → List Node
plain_list no_children = []
plain_list (child_then n ns) = plain n ∷ plain_list ns

pub nodes-plain_list : (ns : Children) → nodes (plain_list ns) ≡ plain_children ns
nodes-plain_list no_children = refl
nodes-plain_list (child_then n ns) = ap (node_then (plain n)) (nodes-plain_list ns)

pub plain-element : (n : Numbered) (name : List ℕ) (attrs : _) → held n ≡ Element name attrs → plain n ≡ element name attrs (plain_children (children n))
plain-element (element_at r name' attrs' kids) name attrs h = cc
plain-element (text_at r bytes) name attrs h = cc

pub plain-text : (n : Numbered) (bytes : List ℕ) → held n ≡ Text bytes → plain n ≡ text bytes
plain-text (element_at r name attrs kids) bytes h = cc
plain-text (text_at r bytes') bytes h = cc

none-free : (n : Numbered) → held n ≡ Free → ⊥
none-free (element_at r name attrs kids) h = cc
none-free (text_at r bytes) h = cc

pub count-element : (n : Numbered) (name : List ℕ) (attrs : _) → held n ≡ Element name attrs → node_count (plain n) ≡ 1 + nodes_count (plain_children (children n))
count-element n name attrs h = ap node_count (plain-element n name attrs h)

-- ---- a slot that was read

-- the slot to which a link leads: its row is the node and those after it, and the row after it is smaller
module _ (slots : List Slot) (link : Option NodeRef) (here : NodeRef) (left : IsRow slots link) (is : link ≡ Some here) (s : Slot) (read : s ≡ get_or slots here.0 s) where
  pub step-link : Step slots here
  step-link = step slots here (subst (IsRow slots) is left)

  pub row-link : row slots link ≡ child_then step-link.n step-link.ns
  row-link = ap (row slots) is ∙ step-link.row-is

  next-link : s.around.next ≡ first_of step-link.ns
  next-link = ap (λ (d : Slot). d.around.next) read ∙ step-link.next-is s

  pub row-next : row slots s.around.next ≡ step-link.ns
  row-next = ap (row slots) next-link ∙ step-link.rest-is

  pub left-next : IsRow slots s.around.next
  left-next = subst (IsRow slots) (sym next-link) step-link.rest

  pub smaller-next : nodes_count (plain_children (row slots s.around.next)) < nodes_count (plain_children (row slots link))
  smaller-next =
      omega (arith, ap (λ ns. nodes_count (plain_children ns)) row-next, ap (λ ns. nodes_count (plain_children ns)) row-link, some_node step-link.n)

-- the slot of a node: what it holds, and the row of its children
module _ (slots : List Slot) (here : NodeRef) (one : IsRow slots (Some here)) (s : Slot) (read : s ≡ get_or slots here.0 s) where
  pub held-here : (h : Held) → s.held ≡ h → held (step slots here one).n ≡ h
  held-here h is = sym (ap (λ (d : Slot). d.held) read ∙ (step slots here one).held-is s) ∙ is

  pub not-free : s.held ≡ Free → ⊥
  not-free is = none-free (step slots here one).n (held-here Free is)

  first-here : s.first_child ≡ first_of (children (step slots here one).n)
  first-here = ap (λ (d : Slot). d.first_child) read ∙ (step slots here one).first-is s

  pub row-here : row slots s.first_child ≡ children (step slots here one).n
  row-here = ap (row slots) first-here ∙ (step slots here one).inner-is

  pub inner-here : IsRow slots s.first_child
  inner-here = subst (IsRow slots) (sym first-here) (step slots here one).inner

  pub smaller-here : (name : List ℕ) (attrs : _) → s.held ≡ Element name attrs → nodes_count (plain_children (row slots s.first_child)) < nodes_count (plain_children (row slots (Some here)))
  smaller-here name attrs is =
      omega (
        arith,
        ap (λ ns. nodes_count (plain_children ns)) row-here,
        ap (λ ns. nodes_count (plain_children ns)) (step slots here one).row-is,
        count-element (step slots here one).n name attrs (held-here (Element name attrs) is),
      )
