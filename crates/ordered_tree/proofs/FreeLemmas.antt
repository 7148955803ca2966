-- Free slots that are linked, and references that no node has.
use Rattle.std.proofs.Common.{◌≡◌, ◌≢◌, ℕ, zero, suc, ◌+◌, ◌-◌, ◌<◌, ◌≤◌, Bool, true, false, List, [], ◌∷◌, ◌++◌, Option, Some, None, map, length, get_or, set, take, drop, refl, sym, ap, ◌∙◌, arith, subst, drop-cons, add-one}
use Rattle.std.specs.Bool.{if◌then◌else◌}
use Rattle.std.specs.List.{All, AllPairs, sum_by}
use Rattle.std.proofs.lemmas.List.{get_or-map, get_or_default, get_or-set_same, get_or-set_other, length-set, drop_all}
use Rattle.std.proofs.Math.Seq.{map-set_same}
use Rattle.std.proofs.lemmas.List.Elements.{All-nil, All-cons, All-head, All-set, All-tail, All-same, All-weaker}
use Rattle.std.proofs.lemmas.List.Kept.{AllPairs-cons}
use Rattle.std.proofs.lemmas.List.Sums.{sum_by-cons}
use Rattle.ordered_tree.specs.Slots.{slot_at, no_slot, free_from}
use Rattle.ft_base.specs.declared.ids.NodeRef.{NodeRef}
use Rattle.ordered_tree.specs.declared.slot.Held.{Held}
use Rattle.ordered_tree.specs.declared.slot.Held.TheVariants.{Element, Text, Free}
use Rattle.ordered_tree.specs.declared.slot.Slot.{Slot}
use Rattle.ordered_tree.specs.steps.FreeSlots.{is_free, free_numbers, Leads, spare}
use Rattle.ordered_tree.specs.steps.LinksBelow.{LeadsBelow, LinksBelow}
use Rattle.ordered_tree.proofs.ApartLemmas.{AllPairs-nil}
use Rattle.ordered_tree.proofs.PlacingLemmas.{weight, free_weight}
use Rattle.ordered_tree.proofs.SlotsLemmas.{free_from-none}

few-weight : (b : Bool) → weight b ≤ 1
few-weight true = omega arith
few-weight false = omega arith

-- ---- the numbers of free slots

pub length-free_numbers : (slots : List Slot) (k : ℕ) → length (free_numbers k slots) ≡ sum_by free_weight slots
length-free_numbers [] k = refl
length-free_numbers (s ∷ slots) k = by_test (is_free s.held) refl (length-free_numbers slots (suc k))
  where
    by_test : (b : Bool) → is_free s.held ≡ b → length (free_numbers (suc k) slots) ≡ sum_by free_weight slots → length (free_numbers k (s ∷ slots)) ≡ sum_by free_weight (s ∷ slots)
    by_test true is rest =
        let e : free_numbers k (s ∷ slots) ≡ record { 0 = k } ∷ free_numbers (suc k) slots = rw is refl in
        let w : free_weight s ≡ 1 = ap weight is in
        ap length e ∙ omega (arith, rest, sum_by-cons free_weight s slots)
    by_test false is rest =
        let e : free_numbers k (s ∷ slots) ≡ free_numbers (suc k) slots = rw is refl in
        let w : free_weight s ≡ 0 = ap weight is in
        ap length e ∙ omega (arith, rest, sum_by-cons free_weight s slots)

-- a reference that is the number of a free slot, where the first slot has this number
pub record IsFreeNumber (k : ℕ) (slots : List Slot) (r : NodeRef) : Type 0 where
  pub at : ℕ
  pub is : r.0 ≡ k + at
  pub there : at < length slots
  pub free : (d : Slot) → is_free (get_or slots at d).held ≡ true

further : (k : ℕ) (s : Slot) (slots : List Slot) (r : NodeRef) → IsFreeNumber (suc k) slots r → IsFreeNumber k (s ∷ slots) r
further k s slots r f = record { at = suc f.at; is = omega (arith, f.is); there = omega (arith, f.there); free = λ d. f.free d }

pub all-free_numbers : (slots : List Slot) (k : ℕ) → All (IsFreeNumber k slots) (free_numbers k slots)
all-free_numbers [] k = All-nil (IsFreeNumber k [])
all-free_numbers (s ∷ slots) k =
    let rest : All (IsFreeNumber k (s ∷ slots)) (free_numbers (suc k) slots) =
    All-weaker (IsFreeNumber (suc k) slots) (IsFreeNumber k (s ∷ slots)) (λ r f. further k s slots r f) (free_numbers (suc k) slots) (all-free_numbers slots (suc k)) in
    by_test (is_free s.held) refl rest
  where
    by_test : (b : Bool) → is_free s.held ≡ b → All (IsFreeNumber k (s ∷ slots)) (free_numbers (suc k) slots) → All (IsFreeNumber k (s ∷ slots)) (free_numbers k (s ∷ slots))
    by_test true is rest = rw is (All-cons (IsFreeNumber k (s ∷ slots)) (record { 0 = k }) (free_numbers (suc k) slots) (record { at = 0; is = omega arith; there = omega arith; free = λ d. is }) rest)
    by_test false is rest = rw is rest

pub apart-free_numbers : (slots : List Slot) (k : ℕ) → AllPairs (λ a b. a ≢ b) (free_numbers k slots)
apart-free_numbers [] k = AllPairs-nil (λ a b. a ≢ b)
apart-free_numbers (s ∷ slots) k = by_test (is_free s.held) refl (apart-free_numbers slots (suc k))
  where
    by_test : (b : Bool) → is_free s.held ≡ b → AllPairs (λ a b. a ≢ b) (free_numbers (suc k) slots) → AllPairs (λ a b. a ≢ b) (free_numbers k (s ∷ slots))
    by_test true is rest = rw is (AllPairs-cons (λ a b. a ≢ b) (record { 0 = k }) (free_numbers (suc k) slots)
        (All-weaker (IsFreeNumber (suc k) slots) (λ r. record { 0 = k } ≢ r) (λ r f same. absurd (omega (arith, f.is, ap (λ (q : NodeRef). q.0) same))) (free_numbers (suc k) slots) (all-free_numbers slots (suc k))) rest)
    by_test false is rest = rw is rest

only-free : (h : Held) → is_free h ≡ true → h ≡ Free
only-free (Element name attrs) is = cc
only-free (Text bytes) is = cc
only-free Free is = refl

-- ---- links

-- a slot that no link leads to may change
pub kept-free_from : (far : ℕ) (slots : List Slot) (link : Option NodeRef) (i : ℕ) (v : Slot) → All (λ r. r.0 ≢ i) (free_from far slots link) → free_from far (set slots i v) link ≡ free_from far slots link
unfolding free_from
kept-free_from zero slots link i v h = refl
kept-free_from (suc far) slots None i v h = refl
kept-free_from (suc far) slots (Some r) i v h =
    let here : slot_at (set slots i v) r ≡ slot_at slots r = get_or-set_other slots i r.0 v no_slot (All-head (λ q. q.0 ≢ i) r (free_from far slots (slot_at slots r).around.next) h) in
    ap (λ (s : Slot). r ∷ free_from far (set slots i v) s.around.next) here
    ∙ ap (λ l. r ∷ l) (kept-free_from far slots (slot_at slots r).around.next i v (All-tail (λ q. q.0 ≢ i) r (free_from far slots (slot_at slots r).around.next) h))

-- a free slot gets the link to those after it
pub links-step : (filled slots : List Slot) (k : ℕ) (link : Option NodeRef) (v d : Slot) → k < length filled → length slots ≡ length filled
    → is_free (get_or filled k d).held ≡ true → v.around.next ≡ link
    → ((far : ℕ) → length (free_numbers (suc k) (drop (suc k) filled)) ≤ far → free_from far slots link ≡ free_numbers (suc k) (drop (suc k) filled))
    → (far : ℕ) → length (free_numbers k (drop k filled)) ≤ far → free_from far (set slots k v) (Some (record { 0 = k })) ≡ free_numbers k (drop k filled)
unfolding free_from
links-step filled slots k link v d lt long free next linked far more =
    let rest : List NodeRef = free_numbers (suc k) (drop (suc k) filled) in
    let e : free_numbers k (drop k filled) ≡ record { 0 = k } ∷ rest = ap (free_numbers k) (drop-cons filled k d lt) ∙ yes (is_free (get_or filled k d).held) free in
    one far (omega (arith, more, ap length e)) ∙ sym e
  where
    yes : (b : Bool) → b ≡ true → (if b then record { 0 = k } ∷ free_numbers (suc k) (drop (suc k) filled) else free_numbers (suc k) (drop (suc k) filled)) ≡ record { 0 = k } ∷ free_numbers (suc k) (drop (suc k) filled)
    yes true h = refl
    yes false h = cc

    one : (far : ℕ) → 1 + length (free_numbers (suc k) (drop (suc k) filled)) ≤ far → free_from far (set slots k v) (Some (record { 0 = k })) ≡ record { 0 = k } ∷ free_numbers (suc k) (drop (suc k) filled)
    one zero few = absurd (omega (arith, few))
    one (suc far) few =
        let rest : List NodeRef = free_numbers (suc k) (drop (suc k) filled) in
        let is : free_from far slots link ≡ rest = linked far (omega (arith, few)) in
        let here : slot_at (set slots k v) (record { 0 = k }) ≡ v = get_or-set_same slots k v no_slot (omega (arith, lt, long)) in
        let away : All (λ r. r.0 ≢ k) (free_from far slots link) =
        All-same (λ r. r.0 ≢ k) (free_from far slots link) rest is
        (All-weaker (IsFreeNumber (suc k) (drop (suc k) filled)) (λ r. r.0 ≢ k) (λ r f same. absurd (omega (arith, f.is, same))) rest (all-free_numbers (drop (suc k) filled) (suc k))) in
        ap (λ (s : Slot). record { 0 = k } ∷ free_from far (set slots k v) s.around.next) here
        ∙ ap (λ l. record { 0 = k } ∷ free_from far (set slots k v) l) next
        ∙ ap (λ l. record { 0 = k } ∷ l) (kept-free_from far slots link k v away ∙ is)

pub links-none : (filled slots : List Slot) (k far : ℕ) → length filled ≤ k → free_from far slots None ≡ free_numbers k (drop k filled)
links-none filled slots k far more = free_from-none slots far ∙ ap (free_numbers k) (sym (drop_all k filled more))

pub one-slot : (slots : List Slot) (k : ℕ) (x y : Slot) → k < length slots → x ≡ get_or slots k x → y ≡ get_or slots k y → x ≡ y
one-slot slots k x y lt is same = is ∙ get_or_default slots k x y lt ∙ sym same

-- how far the free slots of `old` are linked: those from a number on
abbrev slot_held : Slot → Held
slot_held s = s.held

pub record Links (old slots : List Slot) (left : ℕ) (link : Option NodeRef) : Type 0 where
  pub long : length slots ≡ length old
  pub within : left ≤ length old
  pub kept : (number : ℕ) (d : Slot) → (get_or old number d).held ≢ Free → get_or slots number d ≡ get_or old number d
  pub held : map slot_held slots ≡ map slot_held old
  pub linked : (far : ℕ) → length (free_numbers left (drop left old)) ≤ far → free_from far slots link ≡ free_numbers left (drop left old)
  pub below : (bound : ℕ) → length old ≤ bound → All (LinksBelow bound) old → All (LinksBelow bound) slots × LeadsBelow bound link

pub links-before : (slots : List Slot) (left : ℕ) → left ≡ length slots → Links slots slots left None
links-before slots left is = record {
  long = refl;
  within = omega (arith, is);
  kept = λ number d ne. refl;
  held = refl;
  linked = λ far more. links-none slots slots left far (omega (arith, is));
  below = λ bound fit all. (all, tt);
}

module _ (old slots : List Slot) (left k : ℕ) (link : Option NodeRef) (v : Slot) (l : Links old slots left link) (before : k + 1 ≡ left) (is : v ≡ get_or slots k v) where
  there : k < length old
  there = omega (arith, l.within, before)

  own-held : v.held ≡ (get_or old k v).held
  own-held =
      ap slot_held is ∙ sym (get_or-map slot_held slots k v v.held (omega (arith, there, l.long)))
      ∙ ap (λ hs. get_or hs k v.held) l.held ∙ get_or-map slot_held old k v v.held there

  suffix : (far : ℕ) → length (free_numbers (suc k) (drop (suc k) old)) ≤ far → free_from far slots link ≡ free_numbers (suc k) (drop (suc k) old)
  suffix = subst (λ n. (far : ℕ) → length (free_numbers n (drop n old)) ≤ far → free_from far slots link ≡ free_numbers n (drop n old)) (sym before ∙ add-one k) l.linked

  pub links-free : is_free v.held ≡ true → Links old (set slots k (record v { around = record v.around { next = link } })) k (Some (record { 0 = k }))
  links-free free =
      let changed : Slot = record v { around = record v.around { next = link } } in
      let free-old : is_free (get_or old k v).held ≡ true = ap is_free (sym own-held) ∙ free in
      record {
        long = length-set slots k changed ∙ l.long;
        within = omega (arith, there);
        kept = λ number d ne.
            get_or-set_other slots k number changed d (λ same. ne (only-free (get_or old number d).held
            (ap (λ i. is_free (get_or old i d).held) same ∙ ap (λ (s : Slot). is_free s.held) (get_or_default old k d v there) ∙ free-old))) ∙ l.kept number d ne;
        held = map-set_same slot_held slots k changed v (ap slot_held is) ∙ l.held;
        linked = links-step old slots k link changed v there l.long free-old refl suffix;
        below = λ bound fit all.
            let before : All (LinksBelow bound) slots × LeadsBelow bound link = l.below bound fit all in
            let own : LinksBelow bound v = subst (LinksBelow bound) (sym is) (before.0 k v (omega (arith, there, l.long))) in (
              All-set (LinksBelow bound) slots k changed (record { first_child = own.first_child; next = before.1; parent = own.parent }) before.0,
              omega (arith, there, fit),
            );
      }

  pub links-taken : is_free v.held ≡ false → Links old slots k link
  links-taken taken =
      let taken-old : is_free (get_or old k v).held ≡ false = ap is_free (sym own-held) ∙ taken in
      let same : free_numbers k (drop k old) ≡ free_numbers (suc k) (drop (suc k) old) = ap (free_numbers k) (drop-cons old k v there) ∙ no (is_free (get_or old k v).held) taken-old in
      record {
        long = l.long;
        within = omega (arith, there);
        kept = l.kept;
        held = l.held;
        linked = λ far more. suffix far (omega (arith, more, ap length same)) ∙ sym same;
        below = l.below;
      }
    where
      no : (b : Bool) → b ≡ false → (if b then record { 0 = k } ∷ free_numbers (suc k) (drop (suc k) old) else free_numbers (suc k) (drop (suc k) old)) ≡ free_numbers (suc k) (drop (suc k) old)
      no true h = cc
      no false h = refl

pub few-free_numbers : (slots : List Slot) (k : ℕ) → length (free_numbers k slots) ≤ length slots
few-free_numbers slots k = omega (arith, length-free_numbers slots k, few-weights slots)
  where
    few-weights : (ss : List Slot) → sum_by free_weight ss ≤ length ss
    few-weights [] = omega arith
    few-weights (s ∷ ss) = omega (arith, sum_by-cons free_weight s ss, few-weights ss, few-weight (is_free s.held))

pub links-all : (old slots : List Slot) (left : ℕ) (link : Option NodeRef) → Links old slots left link → left ≤ 0 → free_from (length slots) slots link ≡ free_numbers 0 old
links-all old slots left link l none =
    let zero-left : left ≡ 0 = omega (arith, none) in
    let all : free_numbers left (drop left old) ≡ free_numbers 0 old = ap (λ n. free_numbers n (drop n old)) zero-left in
    l.linked (length slots) (omega (arith, ap length all, few-free_numbers old 0, l.long)) ∙ all

-- what the links of slots lead to, one link further
pub leads-next : (slots : List Slot) (r : NodeRef) → Leads slots (Some r) → (r.0 < length slots) × Leads slots (slot_at slots r).around.next
unfolding free_from
leads-next slots r l = by_far l.far l.ends l.below
  where
    by_far : (far : ℕ) → length (free_from far slots (Some r)) < far → All (λ q. q.0 < length slots) (free_from far slots (Some r)) → (r.0 < length slots) × Leads slots (slot_at slots r).around.next
    by_far zero ends below = absurd (omega (arith, ends))
    by_far (suc far) ends below = (
      All-head (λ q. q.0 < length slots) r (free_from far slots (slot_at slots r).around.next) below,
      record { far = far; ends = omega (arith, ends); below = All-tail (λ q. q.0 < length slots) r (free_from far slots (slot_at slots r).around.next) below },
    )

-- ---- spare references

abbrev pub numbers : ℕ → ℕ → List NodeRef
numbers start zero = []
numbers start (suc count) = record { 0 = start } ∷ numbers (suc start) count

pub length-spare : (count : ℕ) (slots : List Slot) (link : Option NodeRef) (number : ℕ) → length (spare count slots link number) ≡ count
unfolding spare
length-spare zero slots link number = refl
length-spare (suc count) slots None number = ap suc (length-spare count slots None (suc number))
length-spare (suc count) slots (Some r) number = ap suc (length-spare count slots (slot_at slots r).around.next number)

spare-none : (count : ℕ) (slots : List Slot) (number : ℕ) → spare count slots None number ≡ numbers number count
unfolding spare
spare-none zero slots number = refl
spare-none (suc count) slots number = ap (λ l. record { 0 = number } ∷ l) (spare-none count slots (suc number))

-- where the links end, the numbers come after them
pub spare-is : (count far : ℕ) (slots : List Slot) (link : Option NodeRef) (number : ℕ) → length (free_from far slots link) < far
    → spare count slots link number ≡ take count (free_from far slots link) ++ numbers number (count - length (free_from far slots link))
unfolding spare free_from
spare-is count zero slots link number lt = absurd (omega (arith, lt))
spare-is zero (suc far) slots link number lt =
    let none : 0 - length (free_from (suc far) slots link) ≡ 0 = omega arith in
    ap (λ k. numbers number k) (sym none)
spare-is (suc count) (suc far) slots None number lt =
    let all : suc count - 0 ≡ suc count = omega arith in
    ap (λ l. record { 0 = number } ∷ l) (spare-none count slots (suc number)) ∙ ap (λ k. numbers number k) (sym all)
spare-is (suc count) (suc far) slots (Some r) number lt =
    let rest : List NodeRef = free_from far slots (slot_at slots r).around.next in
    let same : suc count - suc (length rest) ≡ count - length rest = omega arith in
    ap (λ l. r ∷ l) (spare-is count far slots (slot_at slots r).around.next number (omega (arith, lt)))
    ∙ ap (λ k. r ∷ take count rest ++ numbers number k) (sym same)

-- one reference further
pub spare-some : (count : ℕ) (slots : List Slot) (r : NodeRef) (number : ℕ) → 0 < count → spare count slots (Some r) number ≡ r ∷ spare (count - 1) slots (slot_at slots r).around.next number
unfolding spare
spare-some zero slots r number some = absurd (omega (arith, some))
spare-some (suc count) slots r number some = let e : suc count - 1 ≡ count = omega arith in ap (λ k. r ∷ spare k slots (slot_at slots r).around.next number) (sym e)

pub spare-number : (count : ℕ) (slots : List Slot) (number : ℕ) → 0 < count → spare count slots None number ≡ record { 0 = number } ∷ spare (count - 1) slots None (number + 1)
unfolding spare
spare-number zero slots number some = absurd (omega (arith, some))
spare-number (suc count) slots number some = let e : suc count - 1 ≡ count = omega arith in rw add-one (ap (λ k. record { 0 = number } ∷ spare k slots None (suc number)) (sym e))

pub spare-zero : (count : ℕ) (slots : List Slot) (link : Option NodeRef) (number : ℕ) → count ≡ 0 → spare count slots link number ≡ []
unfolding spare
spare-zero zero slots link number h = refl
spare-zero (suc count) slots link number h = absurd (omega (arith, h))

pub all-numbers : (start count : ℕ) → All (λ r. (start ≤ r.0) × (r.0 < start + count)) (numbers start count)
all-numbers start zero = All-nil (λ r. (start ≤ r.0) × (r.0 < start + 0))
all-numbers start (suc count) =
    All-cons (λ r. (start ≤ r.0) × (r.0 < start + suc count)) (record { 0 = start }) (numbers (suc start) count) (omega arith, omega arith)
    (All-weaker (λ r. (suc start ≤ r.0) × (r.0 < suc start + count)) (λ r. (start ≤ r.0) × (r.0 < start + suc count)) (λ r h. (omega (arith, h.0), omega (arith, h.1))) (numbers (suc start) count) (all-numbers (suc start) count))

pub apart-numbers : (start count : ℕ) → AllPairs (λ a b. a ≢ b) (numbers start count)
apart-numbers start zero = AllPairs-nil (λ a b. a ≢ b)
apart-numbers start (suc count) =
    AllPairs-cons (λ a b. a ≢ b) (record { 0 = start }) (numbers (suc start) count)
    (All-weaker (λ r. (suc start ≤ r.0) × (r.0 < suc start + count)) (λ r. record { 0 = start } ≢ r) (λ r h same. absurd (omega (arith, h.0, ap (λ (q : NodeRef). q.0) same))) (numbers (suc start) count) (all-numbers (suc start) count))
    (apart-numbers (suc start) count)
