-- Each link of a node names a node of the document.
use Rattle.std.proofs.Common.{◌≡◌, ℕ, ◌+◌, ◌<◌, ◌≤◌, List, [], map, length, get_or, Option, Some, None, refl, sym, ap, ◌∙◌, arith}
use Rattle.std.specs.List.{All, Contains}
use Rattle.std.specs.Option.{IfSome}
use Rattle.std.proofs.lemmas.List.{get_or-map, length-map}
use Rattle.std.proofs.lemmas.List.Elements.{All-nil, All-cons, All-head, All-map, All-tail, All-append, All-weaker, All-contains_itself}
use Rattle.doc_grammar.specs.Limits.{node_count}
use Rattle.plain_tree.specs.Document.{Node}
use Rattle.ordered_tree.specs.Numbered.{Numbered, element_at, text_at, Children, no_children, child_then, reference, children, first_of}
use Rattle.ordered_tree.specs.Numbering.{numbered}
use Rattle.ordered_tree.specs.Slots.{slot}
use Rattle.ordered_tree.specs.Stands.{Stand, round_root, round_first, round_next, stands, child_stands, stands_in, references}
use Rattle.ordered_tree.specs.declared.around.Around.{Around}
use Rattle.ft_base.specs.declared.ids.NodeRef.{NodeRef}
use Rattle.ordered_tree.specs.steps.LinksBelow.{LeadsBelow, LinksBelow}
use Rattle.ordered_tree.proofs.SlotsLemmas.{All-left, All-right, consecutive, get_or-consecutive, length-consecutive, references-stands}

-- an element of a list is there after a map
pub Contains-map : (f : Stand → NodeRef) (xs : List Stand) (s : Stand) → Contains xs s → Contains (map f xs) (f s)
Contains-map f xs s (k, more, is) =
    (k, (let e = length-map xs f in omega arith), get_or-map f xs k s (f s) more ∙ ap f is)

module _ (root : Numbered) where
  abbrev There : NodeRef → Type 0
  There r = Contains (references root) r

  abbrev IsThere : Stand → Type 0
  IsThere s = There (reference s.node)

  pub record Linked (s : Stand) : Type 0 where
    pub parent : IfSome s.around.parent There
    pub next : IfSome s.around.next There
    pub first : IfSome (first_of (children s.node)) There

  first-there : (ns : Children) (a : Around) → All IsThere (child_stands a ns) → IfSome (first_of ns) There
  unfolding stands child_stands
  first-there no_children a h = tt
  first-there (child_then (element_at r name attrs kids) ns) a h = All-head IsThere _ _ h
  first-there (child_then (text_at r bytes) ns) a h = All-head IsThere _ _ h

  mutual
    unfolding stands child_stands

    linked : (n : Numbered) (a : Around) → IfSome a.parent There → IfSome a.next There → All IsThere (stands a n) → All Linked (stands a n)
    linked (element_at r name attrs kids) a parent next h =
        let below : All IsThere (child_stands (round_first a.before r) kids) = All-tail IsThere _ _ h in
        All-cons Linked _ _ (record { parent = parent; next = next; first = first-there kids (round_first a.before r) below })
        (linked-children kids (round_first a.before r) (All-head IsThere _ _ h) below)
    linked (text_at r bytes) a parent next h = All-cons Linked _ [] (record { parent = parent; next = next; first = tt }) (All-nil Linked)

    linked-children : (ns : Children) (a : Around) → IfSome a.parent There → All IsThere (child_stands a ns) → All Linked (child_stands a ns)
    linked-children no_children a parent h = All-nil Linked
    linked-children (child_then n ns) a parent h =
        let mine : All IsThere (stands (record a { next = first_of ns }) n) = All-left IsThere (stands (record a { next = first_of ns }) n) (child_stands (round_next a n) ns) h in
        let rest : All IsThere (child_stands (round_next a n) ns) = All-right IsThere (stands (record a { next = first_of ns }) n) (child_stands (round_next a n) ns) h in
        All-append Linked (stands (record a { next = first_of ns }) n) (child_stands (round_next a n) ns)
        (linked n (record a { next = first_of ns }) parent (first-there ns (round_next a n) rest) mine)
        (linked-children ns (round_next a n) parent rest)

  all-there : All IsThere (stands_in root)
  all-there = All-weaker (Contains (stands_in root)) IsThere (λ s c. Contains-map (λ x. reference x.node) (stands_in root) s c) (stands_in root) (All-contains_itself (stands_in root))

  pub all-linked : All Linked (stands_in root)
  all-linked = linked root round_root tt tt all-there

-- the root is there
pub root-there : (root : Numbered) → Contains (references root) (reference root)
unfolding stands
root-there (element_at r name attrs kids) = (0, omega arith, refl)
root-there (text_at r bytes) = (0, omega arith, refl)

-- nodes that have the first numbers link to one another
module _ (n : Node) (bound : ℕ) (few : node_count n ≤ bound) where
  low-link : (link : Option NodeRef) → IfSome link (There (numbered 0 n)) → LeadsBelow bound link
  low-link None there = tt
  low-link (Some r) (k, more, is) =
      let refs : references (numbered 0 n) ≡ consecutive 0 (node_count n) = references-stands n round_root 0 in
      let less : k < node_count n = omega (arith, more, ap length refs, length-consecutive (node_count n) 0) in
      let at : r ≡ record { 0 = 0 + k } = sym is ∙ ap (λ l. get_or l k r) refs ∙ get_or-consecutive (node_count n) 0 k r less in
      omega (arith, few, less, ap (λ (q : NodeRef). q.0) at)

  pub links-numbered : All (LinksBelow bound) (map slot (stands_in (numbered 0 n)))
  links-numbered =
      All-map (LinksBelow bound) slot (stands_in (numbered 0 n))
      (All-weaker (Linked (numbered 0 n)) (λ s. LinksBelow bound (slot s))
      (λ s l. record {
        first_child = low-link (first_of (children s.node)) l.first;
        next = low-link s.around.next l.next;
        parent = low-link s.around.parent l.parent;
      })
      (stands_in (numbered 0 n)) (all-linked (numbered 0 n)))
