-- Climbing from a node to the root gives the place at which the node is.
use Rattle.std.proofs.Common.{◌≡◌, ℕ, zero, suc, ◌+◌, ◌-◌, ◌<◌, ◌≤◌, max, List, [], ◌∷◌, ◌++◌, Option, Some, None, length, get_or, refl, ap, ◌∙◌, arith, subst}
use Rattle.std.specs.List.{All}
use Rattle.std.specs.Option.{option_and_then}
use Rattle.std.proofs.lemmas.List.{get_or_default}
use Rattle.std.proofs.lemmas.List.Elements.{All-nil, All-cons, All-append, All-weaker}
use Rattle.ordered_tree.specs.steps.Climbing.{below_parent, climbed, Climbs}
use Rattle.ordered_tree.specs.Counts.{element_depth, element_depths}
use Rattle.ordered_tree.specs.Numbered.{Numbered, element_at, text_at, Children, no_children, child_then, plain, plain_children, reference, children, first_of}
use Rattle.ordered_tree.specs.Places.{child, at_place}
use Rattle.ordered_tree.specs.Slots.{slot, slot_at, no_slot, IsIn}
use Rattle.ordered_tree.specs.Stands.{round_root, round_first, round_next, stands, child_stands, stands_in}
use Rattle.ordered_tree.specs.declared.around.Around.{Around}
use Rattle.ft_base.specs.declared.ids.NodeRef.{NodeRef}
use Rattle.ordered_tree.specs.declared.slot.Slot.{Slot}
use Rattle.ordered_tree.proofs.SlotsLemmas.{slot_of-stands, below-stands, first-child_stands, rest-child_stands}

-- ---- one step up

pub record Up (slots : List Slot) (levels : ℕ) (r parent : NodeRef) : Type 0 where
  pub some : 0 < levels
  pub may : Climbs (levels - 1) slots parent
  pub is : climbed levels slots r ≡ climbed (levels - 1) slots parent ++ (slot_at slots r).around.number ∷ []

module _ (slots : List Slot) where
  pub climbs-here : (levels : ℕ) (r : NodeRef) → Climbs levels slots r → r.0 < length slots
  unfolding Climbs
  climbs-here zero r h = h.0
  climbs-here (suc levels) r h = h.0

  pub up : (levels : ℕ) (r parent : NodeRef) → Climbs levels slots r → (slot_at slots r).around.parent ≡ Some parent → Up slots levels r parent
  unfolding Climbs climbed
  up zero r parent h is = let none = h.1 in cc
  up (suc levels) r parent h is =
      let e : levels ≡ suc levels - 1 = omega arith in
      record {
        some = omega arith;
        may = subst (λ l. Climbs l slots parent) e (h.1 parent is);
        is = ap (below_parent (climbed levels slots) (slot_at slots r).around.number) is ∙ ap (λ l. climbed l slots parent ++ (slot_at slots r).around.number ∷ []) e;
      }

  pub climbed-root : (levels : ℕ) (r : NodeRef) → (slot_at slots r).around.parent ≡ None → climbed levels slots r ≡ []
  unfolding climbed
  climbed-root zero r none = refl
  climbed-root (suc levels) r none = ap (below_parent (climbed levels slots) (slot_at slots r).around.number) none

  climbs-root : (levels : ℕ) (r : NodeRef) → r.0 < length slots → (slot_at slots r).around.parent ≡ None → Climbs levels slots r
  unfolding Climbs
  climbs-root zero r here none = (here, none)
  climbs-root (suc levels) r here none = (here, λ parent some. let e = none in cc)

  -- the slot that was read
  pub climbs-slot : (levels : ℕ) (r : NodeRef) (s : Slot) → Climbs levels slots r → s ≡ get_or slots r.0 s → s ≡ slot_at slots r
  climbs-slot levels r s h is = is ∙ get_or_default slots r.0 s no_slot (climbs-here levels r h)

-- ---- a place, one child further

and_then-same : (f g : Numbered → Option Numbered) (o wanted : Option Numbered) (n : Numbered) → ((m : Numbered) → f m ≡ Some n → g m ≡ wanted) → option_and_then f o ≡ Some n → option_and_then g o ≡ wanted
and_then-same f g None wanted n same is = cc
and_then-same f g (Some m) wanted n same is = same m is

at_place-child : (place : List ℕ) (k : ℕ) (root n : Numbered) → at_place place root ≡ Some n → at_place (place ++ k ∷ []) root ≡ option_and_then Some (child k (children n))
at_place-child [] k root n is = let e : root ≡ n = cc in ap (λ m. option_and_then Some (child k (children m))) e
at_place-child (j ∷ place) k root n is =
    and_then-same (at_place place) (at_place (place ++ k ∷ [])) (child j (children root)) (option_and_then Some (child k (children n))) n
    (λ m e. at_place-child place k m n e) is

-- ---- every node is at a place, to which climbing leads

module _ (slots : List Slot) (root : Numbered) where
  pub record Placed (levels : ℕ) (n : Numbered) : Type 0 where
    pub place : List ℕ
    pub leads : at_place place root ≡ Some n
    pub climbs : (more : ℕ) → levels ≤ more → climbed more slots (reference n) ≡ place
    pub may : (more : ℕ) → levels ≤ more → Climbs more slots (reference n)

  deeper : (l m : ℕ) (n : Numbered) → l ≤ m → Placed l n → Placed m n
  deeper l m n h p = record {
    place = p.place;
    leads = p.leads;
    climbs = λ more e. p.climbs more (omega arith);
    may = λ more e. p.may more (omega arith);
  }

  climbed-child : (far : ℕ) (r p : NodeRef) (s : Slot) → slot_at slots r ≡ s → s.around.parent ≡ Some p → climbed (suc far) slots r ≡ climbed far slots p ++ s.around.number ∷ []
  unfolding climbed
  climbed-child far r p s is parent =
      ap (λ x. below_parent (climbed far slots) x.around.number x.around.parent) is ∙ ap (below_parent (climbed far slots) s.around.number) parent

  climbs-child : (far : ℕ) (r p : NodeRef) → r.0 < length slots → (slot_at slots r).around.parent ≡ Some p → Climbs far slots p → Climbs (suc far) slots r
  unfolding Climbs
  climbs-child far r p here parent h = (here, λ q some. let e : p ≡ q = cc in subst (Climbs far slots) e h)

  module _ (l : ℕ) (n above : Numbered) (a : Around) (p : Placed l above) (parent : a.parent ≡ Some (reference above)) (i : IsIn slots (record { node = n; around = a })) where
    climbs-of : (more : ℕ) → suc l ≤ more → climbed more slots (reference n) ≡ p.place ++ a.number ∷ []
    climbs-of zero h = absurd (omega arith)
    climbs-of (suc more) h =
        climbed-child more (reference n) (reference above) (slot (record { node = n; around = a })) (i.holds no_slot) parent
        ∙ ap (λ l. l ++ a.number ∷ []) (p.climbs more (omega arith))

    may-of : (more : ℕ) → suc l ≤ more → Climbs more slots (reference n)
    may-of zero h = absurd (omega arith)
    may-of (suc more) h =
        climbs-child more (reference n) (reference above) i.here (ap (λ s. s.around.parent) (i.holds no_slot) ∙ parent) (p.may more (omega arith))

    placed-child : child a.number (children above) ≡ Some n → Placed (suc l) n
    placed-child is = record {
      place = p.place ++ a.number ∷ [];
      leads = at_place-child p.place a.number root above p.leads ∙ ap (option_and_then Some) is;
      climbs = climbs-of;
      may = may-of;
    }

  mutual
    unfolding stands child_stands

    placed-below : (n : Numbered) (a : Around) (l : ℕ) → Placed l n → All (IsIn slots) (stands a n) → All (λ s. Placed (l + element_depth (plain n)) s.node) (stands a n)
    placed-below (element_at r name attrs kids) a l p h =
        let deep : ℕ = element_depth (plain (element_at r name attrs kids)) in
        All-cons (λ s. Placed (l + deep) s.node) (record { node = element_at r name attrs kids; around = a }) (child_stands (round_first a.before r) kids) (deeper l (l + deep) (element_at r name attrs kids) (omega arith) p)
        (All-weaker (λ s. Placed (suc l + element_depths (plain_children kids)) s.node) (λ s. Placed (l + deep) s.node) (λ s q. deeper (suc l + element_depths (plain_children kids)) (l + deep) s.node (omega arith) q)
        (child_stands (round_first a.before r) kids)
        (placed-children kids (round_first a.before r) l (element_at r name attrs kids) p refl (λ m. let e : 1 + m ≡ suc m = omega arith in ap (λ k. child k kids) e) (below-stands slots r name attrs kids a h)))
    placed-below (text_at r bytes) a l p h = All-cons (λ s. Placed (l + 0) s.node) (record { node = text_at r bytes; around = a }) [] (deeper l (l + 0) (text_at r bytes) (omega arith) p) (All-nil (λ s. Placed (l + 0) s.node))

    placed-children : (ns : Children) (a : Around) (l : ℕ) (above : Numbered) → Placed l above → a.parent ≡ Some (reference above) → ((m : ℕ) → child (a.number + m) (children above) ≡ child (suc m) ns) → All (IsIn slots) (child_stands a ns) → All (λ s. Placed (suc l + element_depths (plain_children ns)) s.node) (child_stands a ns)
    placed-children no_children a l above p parent numbers h = All-nil (λ s. Placed (suc l + 0) s.node)
    placed-children (child_then n ns) a l above p parent numbers h =
        let first : Around = record a { next = first_of ns } in
        let deep : ℕ = suc l + max (element_depth (plain n)) (element_depths (plain_children ns)) in
        let mine : All (IsIn slots) (stands first n) = first-child_stands slots n ns a h in
        let same : a.number ≡ a.number + 0 = omega arith in
        let here : Placed (suc l) n = placed-child l n above first p parent (slot_of-stands slots n first mine) (ap (λ k. child k (children above)) same ∙ numbers 0) in
        All-append (λ s. Placed deep s.node) (stands first n) (child_stands (round_next a n) ns)
        (All-weaker (λ s. Placed (suc l + element_depth (plain n)) s.node) (λ s. Placed deep s.node) (λ s q. deeper (suc l + element_depth (plain n)) deep s.node (omega arith) q)
        (stands first n) (placed-below n first (suc l) here mine))
        (All-weaker (λ s. Placed (suc l + element_depths (plain_children ns)) s.node) (λ s. Placed deep s.node) (λ s q. deeper (suc l + element_depths (plain_children ns)) deep s.node (omega arith) q)
        (child_stands (round_next a n) ns)
        (placed-children ns (round_next a n) l above p parent (λ m. let e : a.number + 1 + m ≡ a.number + suc m = omega arith in ap (λ k. child k (children above)) e ∙ numbers (suc m)) (rest-child_stands slots n ns a h)))

  pub all-placed : All (IsIn slots) (stands_in root) → All (λ s. Placed (element_depth (plain root)) s.node) (stands_in root)
  all-placed h =
      let i : IsIn slots (record { node = root; around = round_root }) = slot_of-stands slots root round_root h in
      let none : (slot_at slots (reference root)).around.parent ≡ None = ap (λ s. s.around.parent) (i.holds no_slot) in
      let top : Placed 0 root = record {
        place = [];
        leads = refl;
        climbs = λ more e. climbed-root slots more (reference root) none;
        may = λ more e. climbs-root slots more (reference root) i.here none;
      } in
      All-weaker (λ s. Placed (0 + element_depth (plain root)) s.node) (λ s. Placed (element_depth (plain root)) s.node)
      (λ s q. deeper (0 + element_depth (plain root)) (element_depth (plain root)) s.node (omega arith) q) (stands_in root) (placed-below root round_root 0 top h)
