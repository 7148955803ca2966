-- The order of entries, and of their keys; and which entry stands at a place.
use Rattle.std.proofs.Common.{◌≡◌, ◌<◌, ◌∙◌, sym, ap, refl, true, false, ◌&&◌, List, [], ◌∷◌, ◌++◌, ℕ, zero, suc, length, get_or, arith, true≢false}
use Rattle.std.specs.declared.cmp.Ordering.{Ordering}
use Rattle.std.specs.declared.cmp.Ordering.TheVariants.{Less, Equal, Greater}
use Rattle.std.specs.Ordering.{is_lt, is_eq, is_gt, is_le, ordering_then, ordering_reverse}
use Rattle.std.specs.Cmp.{IsTotalOrder, Equal-is}
use Rattle.std.specs.FinMap.{slice_cmp-IsAntisymmetric, nat_cmp-IsAntisymmetric}
use Rattle.std.proofs.lemmas.Bool.{and_parts}
use Rattle.std.proofs.lemmas.Cmp.{on_total, then_total, nat_list_cmp_total, alike_right, tied_itself, upto}
use Rattle.index_meaning.specs.Entries.{Entry, entry, entry_cmp, text_cmp, is_below, stands_at}
use Rattle.term_dict.specs.Places.{stands_before}
use Rattle.term_dict.specs.declared.places.Place.{Place}
use Rattle.term_dict.specs.declared.places.Place.TheVariants.{AtEntry, AtKey, AfterKey}

pub entry_total : IsTotalOrder entry_cmp
entry_total = then_total (on_total (λ (e : Entry). e.key) nat_list_cmp_total) (on_total (λ (e : Entry). e.word) nat_list_cmp_total)

both_equal : (o p : Ordering) → ordering_then o p ≡ Equal → (o ≡ Equal) × (p ≡ Equal)
both_equal Less p h = absurd (true≢false (ap is_lt h))
both_equal Equal p h = (refl, h)
both_equal Greater p h = absurd (true≢false (ap is_gt h))

-- entries that stand at one place are the same
pub same_entry : (e f : Entry) → entry_cmp e f ≡ Equal → e ≡ f
same_entry e f h =
    let parts = both_equal (text_cmp e.key f.key) (text_cmp e.word f.word) h in
    let keys : e.key ≡ f.key = slice_cmp-IsAntisymmetric nat_cmp-IsAntisymmetric e.key f.key parts.0 in
    let words : e.word ≡ f.word = slice_cmp-IsAntisymmetric nat_cmp-IsAntisymmetric e.word f.word parts.1 in
    λ i. entry (keys i) (words i)

-- the entry that stands at a place is the one of that number
pub stands_there : (e : Entry) (n : ℕ) (es : List Entry) → stands_at e n es ≡ true → (n < length es) × (get_or es n e ≡ e)
stands_there e n [] h = absurd (true≢false (sym h))
stands_there e zero (f ∷ es) h = (omega arith, sym (same_entry e f ((Equal-is (entry_cmp e f)).0 h)))
stands_there e (suc n) (f ∷ es) h = let rest = stands_there e n es h in (omega (arith, rest.0), rest.1)

pub one_stands : (e f : Entry) (n : ℕ) (es : List Entry) → stands_at e n es ≡ true → stands_at f n es ≡ true → e ≡ f
one_stands e f n [] h k = absurd (true≢false (sym h))
one_stands e f zero (g ∷ es) h k = same_entry e g ((Equal-is (entry_cmp e g)).0 h) ∙ sym (same_entry f g ((Equal-is (entry_cmp f g)).0 k))
one_stands e f (suc n) (g ∷ es) h k = one_stands e f n es h k

-- it stays there where another comes after the last one, and that stands there
pub stands_still : (e f : Entry) (n : ℕ) (es : List Entry) → stands_at e n es ≡ true → stands_at e n (es ++ f ∷ []) ≡ true
stands_still e f n [] h = absurd (true≢false (sym h))
stands_still e f zero (g ∷ es) h = h
stands_still e f (suc n) (g ∷ es) h = stands_still e f n es h

pub stands_last : (e : Entry) (es : List Entry) → stands_at e (length es) (es ++ e ∷ []) ≡ true
stands_last e [] = (Equal-is (entry_cmp e e)).1 (tied_itself entry_total e)
stands_last e (f ∷ es) = stands_last e es

pub turned_less : (e f : Entry) → entry_cmp e f ≡ Greater → entry_cmp f e ≡ Less
turned_less e f h = entry_total.antisymm f e ∙ ap ordering_reverse h

pub turned_greater : (e f : Entry) → entry_cmp e f ≡ Less → entry_cmp f e ≡ Greater
turned_greater e f h = entry_total.antisymm f e ∙ ap ordering_reverse h

pub less_is : (o : Ordering) → is_lt o ≡ true → o ≡ Less
less_is Less h = refl
less_is Equal h = absurd (true≢false (sym h))
less_is Greater h = absurd (true≢false (sym h))

pub greater_is : (o : Ordering) → is_gt o ≡ true → o ≡ Greater
greater_is Less h = absurd (true≢false (sym h))
greater_is Equal h = absurd (true≢false (sym h))
greater_is Greater h = refl

pub not_greater : (o : Ordering) → is_le o ≡ true → is_gt o ≡ false
not_greater Less h = refl
not_greater Equal h = refl
not_greater Greater h = absurd (true≢false (sym h))

pub less_or_equal : (o : Ordering) → is_gt o ≡ false → is_le o ≡ true
less_or_equal Less h = refl
less_or_equal Equal h = refl
less_or_equal Greater h = absurd (true≢false h)

first_not_greater : (o p : Ordering) → ordering_then o p ≡ Less → is_gt o ≡ false
first_not_greater Less p h = refl
first_not_greater Equal p h = refl
first_not_greater Greater p h = absurd (true≢false (ap is_gt h))

-- the key of an entry before isn't greater
pub keys_in_order : (e f : Entry) → entry_cmp e f ≡ Less → is_gt (text_cmp e.key f.key) ≡ false
keys_in_order e f h = first_not_greater (text_cmp e.key f.key) (text_cmp e.word f.word) h

-- what isn't greater than a smaller text is smaller
smaller_by : (a b c : List ℕ) (o : Ordering) → text_cmp a b ≡ o → is_gt o ≡ false → text_cmp b c ≡ Less → text_cmp a c ≡ Less
smaller_by a b c Less is h below = nat_list_cmp_total.trans a b c is below
smaller_by a b c Equal is h below = nat_list_cmp_total.congr a b c is ∙ below
smaller_by a b c Greater is h below = absurd (true≢false h)

-- what stands before an entry that stands before a place stands before it too
pub before_closed : (place : Place) (e f g : Entry) → entry_cmp f g ≡ Less → stands_before place e g ≡ true → stands_before place e f ≡ true
before_closed AtEntry e f g less h =
    ap is_gt (turned_greater f e (entry_total.trans f g e less (turned_less e g (greater_is (entry_cmp e g) h))))
before_closed AtKey e f g less h =
    ap is_lt (smaller_by f.key g.key e.key (text_cmp f.key g.key) refl (keys_in_order f g less) (less_is (text_cmp g.key e.key) h))
before_closed AfterKey e f g less h =
    less_or_equal (text_cmp f.key e.key) (upto nat_list_cmp_total f.key g.key e.key (keys_in_order f g less) (not_greater (text_cmp g.key e.key) h))

-- an entry that stands at the place of one below these, or before it, is below them
pub below_less : (e f : Entry) (es : List Entry) → entry_cmp e f ≡ Less → is_below f es ≡ true → is_below e es ≡ true
below_less e f [] less h = refl
below_less e f (g ∷ es) less h =
    let parts = and_parts (is_lt (entry_cmp f g)) (is_below f es) h in
    let first : is_lt (entry_cmp e g) ≡ true = ap is_lt (entry_total.trans e f g less (less_is (entry_cmp f g) parts.0)) in
    let rest : is_below e es ≡ true = below_less e f es less parts.1 in
    λ i. first i && rest i

pub below_equal : (e f : Entry) (es : List Entry) → entry_cmp e f ≡ Equal → is_below f es ≡ true → is_below e es ≡ true
below_equal e f [] equal h = refl
below_equal e f (g ∷ es) equal h =
    let parts = and_parts (is_lt (entry_cmp f g)) (is_below f es) h in
    let first : is_lt (entry_cmp e g) ≡ true = ap is_lt (entry_total.congr e f g equal) ∙ parts.0 in
    let rest : is_below e es ≡ true = below_equal e f es equal parts.1 in
    λ i. first i && rest i

-- tests of two texts for equality give one answer both ways
turned_equal : (o : Ordering) → is_eq (ordering_reverse o) ≡ is_eq o
turned_equal Less = refl
turned_equal Equal = refl
turned_equal Greater = refl

pub equal_turned : (a b : List ℕ) → is_eq (text_cmp a b) ≡ is_eq (text_cmp b a)
equal_turned a b = ap is_eq (nat_list_cmp_total.antisymm a b) ∙ turned_equal (text_cmp b a)

-- where three texts are in order, the outer ones are the same exactly where all are
squeezed_by : (a b c : List ℕ) (o p : Ordering) → text_cmp a b ≡ o → text_cmp b c ≡ p → is_gt o ≡ false → is_gt p ≡ false → is_eq (text_cmp a c) ≡ (is_eq o && is_eq p)
squeezed_by a b c Less Less left right h k = ap is_eq (nat_list_cmp_total.trans a b c left right)
squeezed_by a b c Less Equal left right h k = ap is_eq (sym (alike_right nat_list_cmp_total b c a right) ∙ left)
squeezed_by a b c Less Greater left right h k = absurd (true≢false k)
squeezed_by a b c Equal p left right h k = ap is_eq (nat_list_cmp_total.congr a b c left ∙ right)
squeezed_by a b c Greater p left right h k = absurd (true≢false h)

pub squeezed : (a b c : List ℕ) → is_gt (text_cmp a b) ≡ false → is_gt (text_cmp b c) ≡ false → is_eq (text_cmp a c) ≡ (is_eq (text_cmp a b) && is_eq (text_cmp b c))
squeezed a b c h k = squeezed_by a b c (text_cmp a b) (text_cmp b c) refl refl h k
