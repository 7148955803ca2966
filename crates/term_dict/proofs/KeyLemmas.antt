-- How many keys there are, where an entry comes in or goes out.
use Rattle.std.proofs.Common.{◌≡◌, ℕ, ◌+◌, ◌<◌, ◌≤◌, suc, zero, Bool, true, false, ◌&&◌, ◌||◌, cond, not, List, [], ◌∷◌, length, get_or, refl, ap, sym, ◌∙◌, arith}
use Rattle.std.specs.Prelude.{insert, remove}
use Rattle.std.specs.declared.cmp.Ordering.TheVariants.{Less}
use Rattle.std.specs.Ordering.{is_lt, is_eq}
use Rattle.std.proofs.lemmas.Bool.{and_parts}
use Rattle.index_meaning.specs.Entries.{Entry, entry_cmp, text_cmp, is_below, is_sorted, key_count}
use Rattle.index_meaning.specs.Dictionaries.{Term, entries}
use Rattle.term_dict.specs.Places.{brings_key}
use Rattle.term_dict.proofs.OrderLemmas.{less_is, keys_in_order, equal_turned, squeezed}

-- what an entry between two others changes: `left` is whether its key is that of the one before, `right` whether it is that of the one after
between_two : (left right : Bool) (n : ℕ) → cond left 0 1 + (cond right 0 1 + n) ≡ (cond (left && right) 0 1 + n) + cond (not (left || right)) 1 0
between_two true true n = omega arith
between_two true false n = omega arith
between_two false true n = omega arith
between_two false false n = omega arith

before : (same : Bool) (n : ℕ) → cond same 0 1 + n ≡ n + cond (not same) 1 0
before true n = omega arith
before false n = omega arith

after_last : (same : Bool) → cond same 0 1 + 1 ≡ 1 + cond (not (same || false)) 1 0
after_last true = refl
after_last false = refl

later : (c n m k : ℕ) → n ≡ m + k → c + n ≡ (c + m) + k
later c n m k h = omega arith

abbrev same_keys_of : Entry → Entry → Bool
same_keys_of e f = is_eq (text_cmp e.key f.key)

pub keys_with : (es : List Entry) (n : ℕ) (e : Entry) → n ≤ length es → is_sorted (insert es n e) ≡ true →
    key_count (insert es n e) ≡ key_count es + cond (brings_key e.key n es) 1 0
keys_with [] zero e within h = refl
keys_with [] (suc n) e within h = absurd (omega arith)
keys_with (f ∷ es) zero e within h =
    ap (λ b. cond b 0 1 + key_count (f ∷ es)) (equal_turned e.key f.key) ∙ before (same_keys_of f e) (key_count (f ∷ es))
keys_with (f ∷ []) (suc zero) e within h = after_last (same_keys_of f e)
keys_with (f ∷ []) (suc (suc n)) e within h = absurd (omega arith)
keys_with (f ∷ g ∷ es) (suc zero) e within h =
    let outer = and_parts (is_below f (e ∷ g ∷ es)) (is_sorted (e ∷ g ∷ es)) h in
    let inner = and_parts (is_below e (g ∷ es)) (is_sorted (g ∷ es)) outer.1 in
    let left : entry_cmp f e ≡ Less = less_is (entry_cmp f e) (and_parts (is_lt (entry_cmp f e)) (is_below f (g ∷ es)) outer.0).0 in
    let right : entry_cmp e g ≡ Less = less_is (entry_cmp e g) (and_parts (is_lt (entry_cmp e g)) (is_below e es) inner.0).0 in
    let all : same_keys_of f g ≡ (same_keys_of f e && same_keys_of e g) = squeezed f.key e.key g.key (keys_in_order f e left) (keys_in_order e g right) in
    between_two (same_keys_of f e) (same_keys_of e g) (key_count (g ∷ es))
    ∙ sym (λ i. (cond (all i) 0 1 + key_count (g ∷ es)) + cond (not (same_keys_of f e || equal_turned g.key e.key i)) 1 0)
keys_with (f ∷ g ∷ es) (suc (suc n)) e within h =
    let rest = (and_parts (is_below f (insert (g ∷ es) (suc n) e)) (is_sorted (insert (g ∷ es) (suc n) e)) h).1 in
    later (cond (same_keys_of f g) 0 1) (key_count (insert (g ∷ es) (suc n) e)) (key_count (g ∷ es)) (cond (brings_key e.key (suc n) (g ∷ es)) 1 0)
    (keys_with (g ∷ es) (suc n) e (omega arith) rest)

pub keys_fewer : (es : List Entry) → key_count es ≤ length es
keys_fewer [] = omega arith
keys_fewer (e ∷ []) = omega arith
keys_fewer (e ∷ f ∷ es) =
    let rest = keys_fewer (f ∷ es) in
    elim (same_keys_of e f) as (λ b. cond b 0 1 + key_count (f ∷ es) ≤ suc (length (f ∷ es))) [
      | true ↦ omega arith
      | false ↦ omega arith
    ]

-- an item that is taken out and put in again
pub insert_removed : {T : Type 0} (xs : List T) (n : ℕ) (d : T) → n < length xs → insert (remove xs n) n (get_or xs n d) ≡ xs
insert_removed [] n d within = absurd (omega arith)
insert_removed (x ∷ xs) zero d within = refl
insert_removed (x ∷ xs) (suc n) d within = ap (λ ys. x ∷ ys) (insert_removed xs n d (omega arith))

pub entries_insert : (ts : List Term) (n : ℕ) (t : Term) → entries (insert ts n t) ≡ insert (entries ts) n t.entry
entries_insert [] zero t = refl
entries_insert [] (suc n) t = refl
entries_insert (u ∷ ts) zero t = refl
entries_insert (u ∷ ts) (suc n) t = ap (λ es. u.entry ∷ es) (entries_insert ts n t)

pub entries_remove : (ts : List Term) (n : ℕ) → entries (remove ts n) ≡ remove (entries ts) n
entries_remove [] zero = refl
entries_remove [] (suc n) = refl
entries_remove (u ∷ ts) zero = refl
entries_remove (u ∷ ts) (suc n) = ap (λ es. u.entry ∷ es) (entries_remove ts n)
