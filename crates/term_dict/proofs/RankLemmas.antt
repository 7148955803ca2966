-- How many entries of a list in order stand before a place, and which entry stands there.
use Rattle.std.proofs.Common.{◌≡◌, ℕ, ◌+◌, ◌<◌, ◌≤◌, suc, zero, Bool, true, false, ◌||◌, cond, ◌==◌, List, [], ◌∷◌, length, get_or, Some, None, refl, ap, sym, ◌∙◌, arith, true≢false}
use Rattle.std.specs.declared.cmp.Ordering.{Ordering}
use Rattle.std.specs.declared.cmp.Ordering.TheVariants.{Less, Equal, Greater}
use Rattle.std.specs.Ordering.{is_lt, is_eq, is_gt, is_le}
use Rattle.std.specs.List.{filter}
use Rattle.std.specs.Option.{option_map}
use Rattle.std.proofs.lemmas.Bool.{and_parts, ne_eqb}
use Rattle.index_meaning.specs.Entries.{Entry, entry_cmp, text_cmp, is_below, is_sorted, has_entry, stands_at, number_of, found, span, smaller_keys, same_keys}
use Rattle.term_dict.specs.Places.{stands_before, count_before}
use Rattle.term_dict.specs.declared.places.Place.{Place}
use Rattle.term_dict.specs.declared.places.Place.TheVariants.{AtEntry, AfterKey}
use Rattle.term_dict.proofs.OrderLemmas.{before_closed, less_is, below_less}

-- after an entry that doesn't stand before the place none does
none_after : (place : Place) (e f : Entry) (es : List Entry) → is_below f es ≡ true → stands_before place e f ≡ false → filter (stands_before place e) es ≡ []
none_after place e f [] h not_before = refl
none_after place e f (g ∷ es) h not_before =
    let parts = and_parts (is_lt (entry_cmp f g)) (is_below f es) h in
    let rest = none_after place e f es parts.1 not_before in
    elim (stands_before place e g) as (λ b. stands_before place e g ≡ b → cond b (g ∷ filter (stands_before place e) es) (filter (stands_before place e) es) ≡ []) [
      | true ↦ λ is. absurd (true≢false (sym (before_closed place e f g (less_is (entry_cmp f g) parts.0) is) ∙ not_before))
      | false ↦ λ is. rest
    ] refl

-- where the first entry of a list in order doesn't stand before the place, none does
pub no_rank : (place : Place) (e f : Entry) (es : List Entry) → is_below f es ≡ true → stands_before place e f ≡ false → count_before place e (f ∷ es) ≡ 0
no_rank place e f es h not_before =
    ap (λ b. length (cond b (f ∷ filter (stands_before place e) es) (filter (stands_before place e) es))) not_before
    ∙ ap length (none_after place e f es h not_before)

pub one_rank : (place : Place) (e f : Entry) (es : List Entry) → stands_before place e f ≡ true → count_before place e (f ∷ es) ≡ suc (count_before place e es)
one_rank place e f es is = ap (λ b. length (cond b (f ∷ filter (stands_before place e) es) (filter (stands_before place e) es))) is

below_at : (f : Entry) (es : List Entry) (k : ℕ) (d : Entry) → is_below f es ≡ true → k < length es → entry_cmp f (get_or es k d) ≡ Less
below_at f [] k d h within = absurd (omega arith)
below_at f (g ∷ es) zero d h within = less_is (entry_cmp f g) (and_parts (is_lt (entry_cmp f g)) (is_below f es) h).0
below_at f (g ∷ es) (suc k) d h within = below_at f es k d (and_parts (is_lt (entry_cmp f g)) (is_below f es) h).1 (omega arith)

-- an entry that stands before the place is one of those that are counted
pub rank_above : (place : Place) (e : Entry) (es : List Entry) (k : ℕ) (d : Entry) → is_sorted es ≡ true → k < length es → stands_before place e (get_or es k d) ≡ true →
    k < count_before place e es
rank_above place e [] k d h within is = absurd (omega arith)
rank_above place e (f ∷ es) zero d h within is = omega (arith, one_rank place e f es is)
rank_above place e (f ∷ es) (suc k) d h within is =
    let parts = and_parts (is_below f es) (is_sorted es) h in
    let first = before_closed place e f (get_or es k d) (below_at f es k d parts.0 (omega arith)) is in
    omega (arith, one_rank place e f es first, rank_above place e es k d parts.1 (omega arith) is)

-- one that doesn't is none of them, and none after it is
pub rank_upto : (place : Place) (e : Entry) (es : List Entry) (k : ℕ) (d : Entry) → is_sorted es ≡ true → k < length es → stands_before place e (get_or es k d) ≡ false →
    count_before place e es ≤ k
rank_upto place e [] k d h within is = absurd (omega arith)
rank_upto place e (f ∷ es) zero d h within is = omega (arith, no_rank place e f es (and_parts (is_below f es) (is_sorted es) h).0 is)
rank_upto place e (f ∷ es) (suc k) d h within is =
    let rest = rank_upto place e es k d (and_parts (is_below f es) (is_sorted es) h).1 (omega arith) is in
    elim (stands_before place e f) as (λ b. length (cond b (f ∷ filter (stands_before place e) es) (filter (stands_before place e) es)) ≤ suc k) [
      | true ↦ omega arith
      | false ↦ omega arith
    ]

pub rank_within : (place : Place) (e : Entry) (es : List Entry) → count_before place e es ≤ length es
rank_within place e [] = omega arith
rank_within place e (f ∷ es) =
    let rest = rank_within place e es in
    elim (stands_before place e f) as (λ b. length (cond b (f ∷ filter (stands_before place e) es) (filter (stands_before place e) es)) ≤ suc (length es)) [
      | true ↦ omega arith
      | false ↦ omega arith
    ]

-- ---- the entry at its own place

-- an entry before others is none of them
pub not_among : (e : Entry) (es : List Entry) → is_below e es ≡ true → has_entry e es ≡ false
not_among e [] h = refl
not_among e (f ∷ es) h =
    let parts = and_parts (is_lt (entry_cmp e f)) (is_below e es) h in
    let first : is_eq (entry_cmp e f) ≡ false = ap is_eq (less_is (entry_cmp e f) parts.0) in
    let rest = not_among e es parts.1 in
    λ i. first i || rest i

pub no_number : (e : Entry) (es : List Entry) → is_below e es ≡ true → number_of e es ≡ None
no_number e [] h = refl
no_number e (f ∷ es) h =
    let parts = and_parts (is_lt (entry_cmp e f)) (is_below e es) h in
    let first : is_eq (entry_cmp e f) ≡ false = ap is_eq (less_is (entry_cmp e f) parts.0) in
    ap (λ b. cond b (Some 0) (option_map (λ n. n + 1) (number_of e es))) first ∙ ap (option_map (λ n. n + 1)) (no_number e es parts.1)

pub found_at : (e : Entry) (es : List Entry) → is_sorted es ≡ true → stands_at e (count_before AtEntry e es) es ≡ has_entry e es
found_at e [] h = refl
found_at e (f ∷ es) h =
    let parts = and_parts (is_below f es) (is_sorted es) h in
    elim (entry_cmp e f) as (λ o. entry_cmp e f ≡ o → stands_at e (count_before AtEntry e (f ∷ es)) (f ∷ es) ≡ has_entry e (f ∷ es)) [
      | Less ↦ λ is.
          ap (λ n. stands_at e n (f ∷ es)) (no_rank AtEntry e f es parts.0 (ap is_gt is))
          ∙ ap is_eq is
          ∙ sym (λ i. is_eq (is i) || not_among e es (below_less e f es is parts.0) i)
      | Equal ↦ λ is.
          ap (λ n. stands_at e n (f ∷ es)) (no_rank AtEntry e f es parts.0 (ap is_gt is))
          ∙ ap is_eq is
          ∙ sym (ap (λ o. is_eq o || has_entry e es) is)
      | Greater ↦ λ is.
          ap (λ n. stands_at e n (f ∷ es)) (one_rank AtEntry e f es (ap is_gt is))
          ∙ found_at e es parts.1
          ∙ sym (ap (λ o. is_eq o || has_entry e es) is)
    ] refl

one_later : (b : Bool) (n : ℕ) → option_map (λ k. k + 1) (cond b (Some n) None) ≡ cond b (Some (suc n)) None
one_later true n = let e : n + 1 ≡ suc n = omega arith in ap Some e
one_later false n = refl

pub number_at : (e : Entry) (es : List Entry) → is_sorted es ≡ true → number_of e es ≡ cond (stands_at e (count_before AtEntry e es) es) (Some (count_before AtEntry e es)) None
number_at e [] h = refl
number_at e (f ∷ es) h =
    let parts = and_parts (is_below f es) (is_sorted es) h in
    let shown = λ (n : ℕ). cond (stands_at e n (f ∷ es)) (Some n) None in
    elim (entry_cmp e f) as (λ o. entry_cmp e f ≡ o → number_of e (f ∷ es) ≡ shown (count_before AtEntry e (f ∷ es))) [
      | Less ↦ λ is.
          ap (λ o. cond (is_eq o) (Some 0) (option_map (λ n. n + 1) (number_of e es))) is
          ∙ ap (option_map (λ n. n + 1)) (no_number e es (below_less e f es is parts.0))
          ∙ sym (ap shown (no_rank AtEntry e f es parts.0 (ap is_gt is)) ∙ ap (λ o. cond (is_eq o) (Some 0) None) is)
      | Equal ↦ λ is.
          ap (λ o. cond (is_eq o) (Some 0) (option_map (λ n. n + 1) (number_of e es))) is
          ∙ sym (ap shown (no_rank AtEntry e f es parts.0 (ap is_gt is)) ∙ ap (λ o. cond (is_eq o) (Some 0) None) is)
      | Greater ↦ λ is.
          ap (λ o. cond (is_eq o) (Some 0) (option_map (λ n. n + 1) (number_of e es))) is
          ∙ ap (option_map (λ n. n + 1)) (number_at e es parts.1)
          ∙ one_later (stands_at e (count_before AtEntry e es) es) (count_before AtEntry e es)
          ∙ sym (ap shown (one_rank AtEntry e f es (ap is_gt is)))
    ] refl

-- ---- the entries of a key

either : (o : Ordering) (n m : ℕ) → cond (is_le o) (suc (n + m)) (n + m) ≡ cond (is_lt o) (suc n) n + cond (is_eq o) (suc m) m
either Less n m = omega arith
either Equal n m = omega arith
either Greater n m = omega arith

length_cond : (b : Bool) (f : Entry) (fs : List Entry) → length (cond b (f ∷ fs) fs) ≡ cond b (suc (length fs)) (length fs)
length_cond true f fs = refl
length_cond false f fs = refl

-- those that stand before the end of a key are those before it and its own
pub upto_key : (e : Entry) (es : List Entry) → count_before AfterKey e es ≡ smaller_keys e.key es + same_keys e.key es
upto_key e [] = refl
upto_key e (f ∷ es) =
    let o = text_cmp f.key e.key in
    length_cond (is_le o) f (filter (stands_before AfterKey e) es)
    ∙ ap (λ n. cond (is_le o) (suc n) n) (upto_key e es)
    ∙ either o (smaller_keys e.key es) (same_keys e.key es)
    ∙ sym (λ i. length_cond (is_lt o) f (filter (λ (g : Entry). is_lt (text_cmp g.key e.key)) es) i + length_cond (is_eq o) f (filter (λ (g : Entry). is_eq (text_cmp g.key e.key)) es) i)

pub found_none : (key : List ℕ) (es : List Entry) → same_keys key es ≡ 0 → found key es ≡ None
found_none key es none = ap (λ n. cond (n == 0) None (Some (span (smaller_keys key es) (smaller_keys key es + n)))) none

pub found_some : (key : List ℕ) (es : List Entry) → (same_keys key es ≡ 0 → ⊥) → found key es ≡ Some (span (smaller_keys key es) (smaller_keys key es + same_keys key es))
found_some key es some =
    let other : (same_keys key es == 0) ≡ false = ne_eqb (same_keys key es) 0 some in
    ap (λ b. cond b None (Some (span (smaller_keys key es) (smaller_keys key es + same_keys key es)))) other
