-- Slots that were filled with a document stand for its nodes, and the others are as they were.
use Rattle.std.proofs.Common.{◌≡◌, ◌≢◌, ℕ, ◌+◌, ◌<◌, Bool, true, false, List, [], ◌∷◌, ◌++◌, length, get_or, reverse, set, refl, sym, ap, ◌∙◌, arith, subst, length-append}
use Rattle.std.specs.List.{All, AllPairs, sum_by}
use Rattle.std.proofs.lemmas.List.{get_or-set_same, get_or-set_other, length-set, reverse-append}
use Rattle.std.proofs.lemmas.List.Elements.{All-nil, All-cons, All-head, All-set, All-tail, All-append}
use Rattle.std.proofs.lemmas.List.Sums.{sum_by-set}
use Rattle.plain_tree.specs.declared.tree.Attr.{Attr}
use Rattle.ordered_tree.specs.Numbered.{Numbered, element_at, text_at, Children, no_children, child_then, reference, first_of}
use Rattle.ordered_tree.specs.Slots.{held, slot, no_slot, IsIn}
use Rattle.ordered_tree.specs.Stands.{Stand, round_first, round_next, stands, child_stands}
use Rattle.ordered_tree.specs.declared.around.Around.{Around}
use Rattle.ft_base.specs.declared.ids.NodeRef.{NodeRef}
use Rattle.ordered_tree.specs.declared.ref_tree.RefTree.{RefTree}
use Rattle.ordered_tree.specs.declared.slot.Slot.{Slot}
use Rattle.ordered_tree.specs.steps.FreeSlots.{is_free}
use Rattle.ordered_tree.specs.steps.LinksBelow.{LeadsBelow, LinksBelow}
use Rattle.ordered_tree.specs.steps.Placing.{Below, AllBelow, placed, all_placed}
use Rattle.ordered_tree.proofs.SlotsLemmas.{All-left, All-right}
use Rattle.ordered_tree.proofs.ApartLemmas.{AllPairs-head, AllPairs-tail, AllPairs-left, AllPairs-right, AllPairs-between}

mutual
  unfolding placed all_placed

  pub length-placed : (n : Numbered) (a : Around) (slots : List Slot) → length (placed a n slots) ≡ length slots
  length-placed (element_at r name attrs kids) a slots =
      length-set (all_placed (round_first a.before r) kids slots) r.0 _ ∙ length-all_placed kids (round_first a.before r) slots
  length-placed (text_at r bytes) a slots = length-set slots r.0 _

  pub length-all_placed : (ns : Children) (a : Around) (slots : List Slot) → length (all_placed a ns slots) ≡ length slots
  length-all_placed no_children a slots = refl
  length-all_placed (child_then n ns) a slots =
      length-all_placed ns (round_next a n) (placed (record a { next = first_of ns }) n slots) ∙ length-placed n (record a { next = first_of ns }) slots

-- ---- slots that no node has

abbrev pub Other : ℕ → Stand → Type 0
Other number s = (reference s.node).0 ≢ number

abbrev pub Apart : Stand → Stand → Type 0
Apart s t = reference s.node ≢ reference t.node

pub other-number : (r q : NodeRef) → r ≢ q → q.0 ≢ r.0
other-number r q h e = h (ap (λ (n : ℕ). let named : NodeRef = record { 0 = n } in named) (sym e))

-- nodes apart from one have other numbers
pub others : (s : Stand) (xs : List Stand) → All (Apart s) xs → All (Other (reference s.node).0) xs
others s xs h k d lt = other-number (reference s.node) (reference (get_or xs k d).node) (h k d lt)

mutual
  unfolding placed all_placed stands child_stands

  pub kept-placed : (n : Numbered) (a : Around) (slots : List Slot) (i : ℕ) (d : Slot) → All (Other i) (stands a n) → get_or (placed a n slots) i d ≡ get_or slots i d
  kept-placed (element_at r name attrs kids) a slots i d h =
      get_or-set_other (all_placed (round_first a.before r) kids slots) r.0 i _ d (λ e. All-head (Other i) _ (child_stands (round_first a.before r) kids) h (sym e))
      ∙ kept-all_placed kids (round_first a.before r) slots i d (All-tail (Other i) (record { node = element_at r name attrs kids; around = a }) (child_stands (round_first a.before r) kids) h)
  kept-placed (text_at r bytes) a slots i d h =
      get_or-set_other slots r.0 i _ d (λ e. All-head (Other i) (record { node = text_at r bytes; around = a }) [] h (sym e))

  pub kept-all_placed : (ns : Children) (a : Around) (slots : List Slot) (i : ℕ) (d : Slot) → All (Other i) (child_stands a ns) → get_or (all_placed a ns slots) i d ≡ get_or slots i d
  kept-all_placed no_children a slots i d h = refl
  kept-all_placed (child_then n ns) a slots i d h =
      let b : Around = record a { next = first_of ns } in
      kept-all_placed ns (round_next a n) (placed b n slots) i d (All-right (Other i) (stands b n) (child_stands (round_next a n) ns) h)
      ∙ kept-placed n b slots i d (All-left (Other i) (stands b n) (child_stands (round_next a n) ns) h)

-- ---- the slots of the nodes

below-kept : (ns : Children) (slots after : List Slot) → length after ≡ length slots → AllBelow (length slots) ns → AllBelow (length after) ns
below-kept ns slots after long h = subst (λ l. AllBelow l ns) (sym long) h

mutual
  unfolding placed all_placed stands child_stands

  pub in-placed : (n : Numbered) (a : Around) (slots : List Slot) → Below (length slots) n → AllPairs Apart (stands a n) → All (IsIn (placed a n slots)) (stands a n)
  in-placed (element_at r name attrs kids) a slots below apart =
      let own : Stand = record { node = element_at r name attrs kids; around = a } in
      let rest : List Stand = child_stands (round_first a.before r) kids in
      let inner : List Slot = all_placed (round_first a.before r) kids slots in
      let long : length inner ≡ length slots = length-all_placed kids (round_first a.before r) slots in
      let longer : length (set inner r.0 (slot own)) ≡ length inner = length-set inner r.0 (slot own) in
      let there : r.0 < length inner = omega (arith, below.0) in
      let mine : IsIn (set inner r.0 (slot own)) own = record { here = omega arith; holds = λ d. get_or-set_same inner r.0 (slot own) d there } in
      let all : All (IsIn inner) rest = in-all_placed kids (round_first a.before r) slots below.1 (AllPairs-tail Apart own rest apart) in
      let away : All (Other r.0) rest = others own rest (AllPairs-head Apart own rest apart) in
      All-cons (IsIn (set inner r.0 (slot own))) own rest mine (λ k d lt.
      let i : IsIn inner (get_or rest k d) = all k d lt in
      record {
        here = omega (arith, i.here, longer);
        holds = λ e. get_or-set_other inner r.0 (reference (get_or rest k d).node).0 (slot own) e (away k d lt) ∙ i.holds e;
      })
  in-placed (text_at r bytes) a slots below apart =
      let own : Stand = record { node = text_at r bytes; around = a } in
      let longer : length (set slots r.0 (slot own)) ≡ length slots = length-set slots r.0 (slot own) in
      All-cons (IsIn (set slots r.0 (slot own))) own [] (record { here = omega (arith, below); holds = λ d. get_or-set_same slots r.0 (slot own) d below }) (All-nil (IsIn (set slots r.0 (slot own))))

  pub in-all_placed : (ns : Children) (a : Around) (slots : List Slot) → AllBelow (length slots) ns → AllPairs Apart (child_stands a ns) → All (IsIn (all_placed a ns slots)) (child_stands a ns)
  in-all_placed no_children a slots below apart = All-nil (IsIn slots)
  in-all_placed (child_then n ns) a slots below apart =
      let b : Around = record a { next = first_of ns } in
      let c : Around = round_next a n in
      let middle : List Slot = placed b n slots in
      let long : length middle ≡ length slots = length-placed n b slots in
      let after : List Slot = all_placed c ns middle in
      let longer : length after ≡ length middle = length-all_placed ns c middle in
      let first : All (IsIn middle) (stands b n) = in-placed n b slots below.0 (AllPairs-left Apart (stands b n) (child_stands c ns) apart) in
      let between : All (λ s. All (Apart s) (child_stands c ns)) (stands b n) = AllPairs-between Apart (stands b n) (child_stands c ns) apart in
      All-append (IsIn after) (stands b n) (child_stands c ns)
      (λ k d lt.
      let s : Stand = get_or (stands b n) k d in
      let i : IsIn middle s = first k d lt in
      record {
        here = omega (arith, i.here, longer);
        holds = λ e. kept-all_placed ns c middle (reference s.node).0 e (others s (child_stands c ns) (between k d lt)) ∙ i.holds e;
      })
      (in-all_placed ns c middle (below-kept ns slots middle long below.1) (AllPairs-right Apart (stands b n) (child_stands c ns) apart))

-- ---- links

first-below : (bound : ℕ) (ns : Children) → AllBelow bound ns → LeadsBelow bound (first_of ns)
first-below bound no_children below = tt
first-below bound (child_then (element_at r name attrs kids) ns) below = below.0.0
first-below bound (child_then (text_at r bytes) ns) below = below.0

module _ (bound : ℕ) where
  mutual
    unfolding placed all_placed

    -- they lead to nodes, and so below each bound of these
    pub links-placed : (n : Numbered) (a : Around) (slots : List Slot) → Below bound n → LeadsBelow bound a.parent
        → LeadsBelow bound a.next → All (LinksBelow bound) slots
        → All (LinksBelow bound) (placed a n slots)
    links-placed (element_at r name attrs kids) a slots below parent next all =
        let inner : Around = round_first a.before r in
        All-set (LinksBelow bound) (all_placed inner kids slots) r.0 _
        (record { first_child = first-below bound kids below.1; next = next; parent = parent })
        (links-all_placed kids inner slots below.1 below.0 all)
    links-placed (text_at r bytes) a slots below parent next all =
        All-set (LinksBelow bound) slots r.0 _ (record { first_child = tt; next = next; parent = parent }) all

    links-all_placed : (ns : Children) (a : Around) (slots : List Slot) → AllBelow bound ns → LeadsBelow bound a.parent → All (LinksBelow bound) slots
        → All (LinksBelow bound) (all_placed a ns slots)
    links-all_placed no_children a slots below parent all = all
    links-all_placed (child_then n ns) a slots below parent all =
        let b : Around = record a { next = first_of ns } in
        links-all_placed ns (round_next a n) (placed b n slots) below.1 parent
        (links-placed n b slots below.0 parent (first-below bound ns below.1) all)

-- ---- references that are below a bound

mutual
  unfolding stands child_stands

  pub below-from : (n : Numbered) (a : Around) (bound : ℕ) → All (λ s. (reference s.node).0 < bound) (stands a n) → Below bound n
  below-from (element_at r name attrs kids) a bound h = (
    All-head (λ s. (reference s.node).0 < bound) (record { node = element_at r name attrs kids; around = a }) (child_stands (round_first a.before r) kids) h,
    all_below-from kids (round_first a.before r) bound
        (All-tail (λ s. (reference s.node).0 < bound) (record { node = element_at r name attrs kids; around = a }) (child_stands (round_first a.before r) kids) h),
  )
  below-from (text_at r bytes) a bound h = All-head (λ s. (reference s.node).0 < bound) (record { node = text_at r bytes; around = a }) [] h

  all_below-from : (ns : Children) (a : Around) (bound : ℕ) → All (λ s. (reference s.node).0 < bound) (child_stands a ns) → AllBelow bound ns
  all_below-from no_children a bound h = tt
  all_below-from (child_then n ns) a bound h =
      let b : Around = record a { next = first_of ns } in (
        below-from n b bound (All-left (λ s. (reference s.node).0 < bound) (stands b n) (child_stands (round_next a n) ns) h),
        all_below-from ns (round_next a n) bound (All-right (λ s. (reference s.node).0 < bound) (stands b n) (child_stands (round_next a n) ns) h),
      )

-- ---- how many slots are free

abbrev pub weight : Bool → ℕ
weight true = 1
weight false = 0

abbrev pub free_weight : Slot → ℕ
free_weight s = weight (is_free s.held)

abbrev pub IsFreeAt : List Slot → Stand → Type 0
IsFreeAt slots s = (d : Slot) → is_free (get_or slots (reference s.node).0 d).held ≡ true

one-fewer : (slots : List Slot) (s : Stand) → (reference s.node).0 < length slots → IsFreeAt slots s
    → sum_by free_weight (set slots (reference s.node).0 (slot s)) + 1 ≡ sum_by free_weight slots
one-fewer slots s there free =
    let old : free_weight (get_or slots (reference s.node).0 no_slot) ≡ 1 = ap weight (free no_slot) in
    let new : free_weight (slot s) ≡ 0 = not-free s.node in
    omega (arith, sum_by-set free_weight slots (reference s.node).0 (slot s) no_slot there)
  where
    not-free : (n : Numbered) → weight (is_free (held n)) ≡ 0
    not-free (element_at r name attrs kids) = refl
    not-free (text_at r bytes) = refl

mutual
  unfolding placed all_placed stands child_stands

  pub count-placed : (n : Numbered) (a : Around) (slots : List Slot) → Below (length slots) n → AllPairs Apart (stands a n) → All (IsFreeAt slots) (stands a n)
      → sum_by free_weight (placed a n slots) + length (stands a n) ≡ sum_by free_weight slots
  count-placed (element_at r name attrs kids) a slots below apart free =
      let own : Stand = record { node = element_at r name attrs kids; around = a } in
      let rest : List Stand = child_stands (round_first a.before r) kids in
      let inner : List Slot = all_placed (round_first a.before r) kids slots in
      let long : length inner ≡ length slots = length-all_placed kids (round_first a.before r) slots in
      let away : All (Other r.0) rest = others own rest (AllPairs-head Apart own rest apart) in
      let mine : IsFreeAt inner own = λ d. ap (λ (s : Slot). is_free s.held) (kept-all_placed kids (round_first a.before r) slots r.0 d away) ∙ All-head (IsFreeAt slots) own rest free d in
      let one = one-fewer inner own (omega (arith, below.0)) mine in
      let more = count-all_placed kids (round_first a.before r) slots below.1 (AllPairs-tail Apart own rest apart) (All-tail (IsFreeAt slots) own rest free) in
      omega arith
  count-placed (text_at r bytes) a slots below apart free =
      let own : Stand = record { node = text_at r bytes; around = a } in
      one-fewer slots own below (All-head (IsFreeAt slots) own [] free)

  pub count-all_placed : (ns : Children) (a : Around) (slots : List Slot) → AllBelow (length slots) ns → AllPairs Apart (child_stands a ns) → All (IsFreeAt slots) (child_stands a ns)
      → sum_by free_weight (all_placed a ns slots) + length (child_stands a ns) ≡ sum_by free_weight slots
  count-all_placed no_children a slots below apart free = omega arith
  count-all_placed (child_then n ns) a slots below apart free =
      let b : Around = record a { next = first_of ns } in
      let c : Around = round_next a n in
      let middle : List Slot = placed b n slots in
      let long : length middle ≡ length slots = length-placed n b slots in
      let between : All (λ s. All (Apart s) (child_stands c ns)) (stands b n) = AllPairs-between Apart (stands b n) (child_stands c ns) apart in
      let rest-free : All (IsFreeAt slots) (child_stands c ns) = All-right (IsFreeAt slots) (stands b n) (child_stands c ns) free in
      let still : All (IsFreeAt middle) (child_stands c ns) = λ k d lt e.
      let t : Stand = get_or (child_stands c ns) k d in
      ap (λ (s : Slot). is_free s.held) (kept-placed n b slots (reference t.node).0 e (λ i f less. other-number (reference t.node) (reference (get_or (stands b n) i f).node) (λ same. between i f less k d lt (sym same)))) ∙ rest-free k d lt e in
      let first = count-placed n b slots below.0 (AllPairs-left Apart (stands b n) (child_stands c ns) apart) (All-left (IsFreeAt slots) (stands b n) (child_stands c ns) free) in
      let others-left = count-all_placed ns c middle (below-kept ns slots middle long below.1) (AllPairs-right Apart (stands b n) (child_stands c ns) apart) still in
      let both = length-append (stands b n) (child_stands c ns) in
      omega arith

-- ---- one child further

pub all_placed-then : (a : Around) (n : Numbered) (ns : Children) (slots : List Slot)
    → all_placed a (child_then n ns) slots ≡ all_placed (round_next a n) ns (placed (record a { next = first_of ns }) n slots)
unfolding all_placed
all_placed-then a n ns slots = refl

pub all_placed-none : (a : Around) (slots : List Slot) → all_placed a no_children slots ≡ slots
unfolding all_placed
all_placed-none a slots = refl

pub placed-element : (a : Around) (r : NodeRef) (name : List ℕ) (attrs : List Attr) (kids : Children) (slots : List Slot)
    → placed a (element_at r name attrs kids) slots ≡ set (all_placed (round_first a.before r) kids slots) r.0 (slot (record { node = element_at r name attrs kids; around = a }))
unfolding placed
placed-element a r name attrs kids slots = refl

pub placed-text : (a : Around) (r : NodeRef) (bytes : List ℕ) (slots : List Slot)
    → placed a (text_at r bytes) slots ≡ set slots r.0 (slot (record { node = text_at r bytes; around = a }))
unfolding placed
placed-text a r bytes slots = refl

-- the last of a vector is the first of its reverse
pub reverse-pop : (all prefix : List RefTree) (last : RefTree) → all ≡ prefix ++ last ∷ [] → reverse all ≡ last ∷ reverse prefix
reverse-pop all prefix last is = ap reverse is ∙ reverse-append prefix (last ∷ [])
