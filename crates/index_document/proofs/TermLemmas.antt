-- Ascending terms, and whether a term is one of them.
use Rattle.std.proofs.Common.{◌≡◌, ℕ, ◌<◌, ◌≤◌, suc, zero, true, false, cond, nat_lt, ◌||◌, ◌==◌, List, [], ◌∷◌, ◌++◌, length, drop, get_or, refl, ap, sym, ◌∙◌, arith, inl, inr, true≢false}
use Rattle.std.proofs.lemmas.Bool.{and_parts, and_from, or_cases, or_right, or_left, ltb-true, lt-ltb, eqb-true, eq-eqb, ne_eqb, cases_eq, cond_both, false_from_ne_true, eqb-false, ltb-false}
use Rattle.std.proofs.lemmas.List.Folds.{list_any-append}
use Rattle.ft_base.specs.Places.{is_ascending}
use Rattle.ft_base.proofs.PlacesLemmas.{rest-ascending}
use Rattle.ft_base.proofs.Truth.{or_swap, or_again, or_other}
use Rattle.index_document.specs.Terms.{has, with_term, terms_of}

pub has-append : (t : ℕ) (xs ys : List ℕ) → has t (xs ++ ys) ≡ (has t xs || has t ys)
has-append t xs ys = list_any-append (λ other. other == t) xs ys

pub has-head : (x t : ℕ) (xs : List ℕ) → x ≡ t → has t (x ∷ xs) ≡ true
has-head x t xs same = or_left (x == t) (has t xs) (eq-eqb x t same)

pub has-other : (x t : ℕ) (xs : List ℕ) → (x ≡ t → ⊥) → has t (x ∷ xs) ≡ has t xs
has-other x t xs other = or_other (x == t) (has t xs) (ne_eqb x t other)

-- the first is less than each of the others
pub first-below : (x : ℕ) (xs : List ℕ) → is_ascending (x ∷ xs) ≡ true → (t : ℕ) → has t xs ≡ true → x < t
first-below x [] up t there = absurd (true≢false (sym there))
first-below x (y ∷ xs) up t there =
    let parts = and_parts (nat_lt x y) (is_ascending (y ∷ xs)) up in
    let below : x < y = ltb-true x y parts.0 in
    elim (or_cases (y == t) (has t xs) there) [
      | inl here ↦ omega (arith, eqb-true y t here)
      | inr further ↦ omega (arith, first-below y xs parts.1 t further)
    ]

pub ascending-cons : (x : ℕ) (xs : List ℕ) → ((t : ℕ) → has t xs ≡ true → x < t) → is_ascending xs ≡ true → is_ascending (x ∷ xs) ≡ true
ascending-cons x [] below up = refl
ascending-cons x (y ∷ xs) below up = and_from (nat_lt x y) (is_ascending (y ∷ xs)) (lt-ltb x y (below y (has-head y y xs refl))) up

pub not-in-rest : (x t : ℕ) (xs : List ℕ) → is_ascending (x ∷ xs) ≡ true → t ≤ x → has t xs ≡ false
not-in-rest x t xs up least = false_from_ne_true (has t xs) (λ there. omega (arith, first-below x xs up t there))

-- ascending lists with the same terms are one list
pub same_terms : (xs ys : List ℕ) → is_ascending xs ≡ true → is_ascending ys ≡ true → ((t : ℕ) → has t xs ≡ has t ys) → xs ≡ ys
same_terms [] [] up₁ up₂ same = refl
same_terms [] (y ∷ ys) up₁ up₂ same = absurd (true≢false (sym (has-head y y ys refl) ∙ sym (same y)))
same_terms (x ∷ xs) [] up₁ up₂ same = absurd (true≢false (sym (has-head x x xs refl) ∙ same x))
same_terms (x ∷ xs) (y ∷ ys) up₁ up₂ same =
    let no_less : (a b : ℕ) (us vs : List ℕ) → is_ascending (a ∷ us) ≡ true → has b (a ∷ us) ≡ true → a ≤ b =
    λ a b us vs up there. elim (or_cases (a == b) (has b us) there) [
      | inl here ↦ omega (arith, eqb-true a b here)
      | inr further ↦ omega (arith, first-below a us up b further)
    ] in
    let here : x ≡ y = omega (arith, no_less x y xs ys up₁ (same y ∙ has-head y y ys refl), no_less y x ys xs up₂ (sym (same x) ∙ has-head x x xs refl)) in
    let rest : (t : ℕ) → has t xs ≡ has t ys = λ t. elim (cases_eq x t) [
      | inl is ↦ not-in-rest x t xs up₁ (omega (arith, is)) ∙ sym (not-in-rest y t ys up₂ (omega (arith, is)))
      | inr other ↦ sym (has-other x t xs other) ∙ same t ∙ has-other y t ys (λ is. other (omega (arith, is)))
    ] in
    ap (λ z. z ∷ xs) here ∙ ap (λ zs. y ∷ zs) (same_terms xs ys (rest-ascending x xs up₁) (rest-ascending y ys up₂) rest)

pub has-with_term : (u t : ℕ) (xs : List ℕ) → has u (with_term t xs) ≡ ((t == u) || has u xs)
has-with_term u t [] = refl
has-with_term u t (x ∷ xs) =
    let goal = λ (ys : List ℕ). has u ys ≡ ((t == u) || has u (x ∷ xs)) in
    cond_both (nat_lt t x) (t ∷ x ∷ xs) (cond (t == x) (x ∷ xs) (x ∷ with_term t xs)) goal (λ below. refl)
    (λ above. cond_both (t == x) (x ∷ xs) (x ∷ with_term t xs) goal
    (λ same. or_again (x == u) (has u xs) ∙ ap (λ z. (z == u) || has u (x ∷ xs)) (sym (eqb-true t x same)))
    (λ other. ap (λ z. (x == u) || z) (has-with_term u t xs) ∙ or_swap (x == u) (t == u) (has u xs)))

pub with_term-ascending : (t : ℕ) (xs : List ℕ) → is_ascending xs ≡ true → is_ascending (with_term t xs) ≡ true
with_term-ascending t [] up = refl
with_term-ascending t (x ∷ xs) up =
    let goal = λ (ys : List ℕ). is_ascending ys ≡ true in
    cond_both (nat_lt t x) (t ∷ x ∷ xs) (cond (t == x) (x ∷ xs) (x ∷ with_term t xs)) goal (λ below. and_from (nat_lt t x) (is_ascending (x ∷ xs)) below up)
    (λ above. cond_both (t == x) (x ∷ xs) (x ∷ with_term t xs) goal (λ same. up)
    (λ other. ascending-cons x (with_term t xs)
    (λ u there. elim (or_cases (t == u) (has u xs) (sym (has-with_term u t xs) ∙ there)) [
      | inl here ↦ omega (arith, eqb-true t u here, ltb-false t x above, eqb-false t x other)
      | inr further ↦ first-below x xs up u further
    ])
    (with_term-ascending t xs (rest-ascending x xs up))))

pub terms_of-ascending : (words : List ℕ) → is_ascending (terms_of words) ≡ true
terms_of-ascending [] = refl
terms_of-ascending (w ∷ words) = with_term-ascending w (terms_of words) (terms_of-ascending words)

pub has-terms_of : (t : ℕ) (words : List ℕ) → has t (terms_of words) ≡ has t words
has-terms_of t [] = refl
has-terms_of t (w ∷ words) = has-with_term t w (terms_of words) ∙ ap (λ z. (w == t) || z) (has-terms_of t words)

pub are-terms : (ids words : List ℕ) → is_ascending ids ≡ true → ((t : ℕ) → has t ids ≡ has t words) → ids ≡ terms_of words
are-terms ids words up same = same_terms ids (terms_of words) up (terms_of-ascending words) (λ t. same t ∙ sym (has-terms_of t words))

-- by number
pub has-at : (xs : List ℕ) (k : ℕ) → k < length xs → has (get_or xs k 0) xs ≡ true
has-at [] k there = absurd (omega arith)
has-at (x ∷ xs) zero there = has-head x x xs refl
has-at (x ∷ xs) (suc k) there = or_right (x == get_or xs k 0) (has (get_or xs k 0) xs) (has-at xs k (omega arith))

pub ascending-at : (xs : List ℕ) (i j : ℕ) → is_ascending xs ≡ true → i < j → j < length xs → get_or xs i 0 < get_or xs j 0
ascending-at [] i j up before there = absurd (omega arith)
ascending-at (x ∷ xs) zero zero up before there = absurd (omega arith)
ascending-at (x ∷ xs) (suc i) zero up before there = absurd (omega arith)
ascending-at (x ∷ xs) zero (suc j) up before there = first-below x xs up (get_or xs j 0) (has-at xs j (omega arith))
ascending-at (x ∷ xs) (suc i) (suc j) up before there = ascending-at xs i j (rest-ascending x xs up) (omega arith) (omega arith)

-- where a term stands that is there
pub find-at : (xs : List ℕ) (t : ℕ) → has t xs ≡ true → (k : ℕ) × (k < length xs) × (get_or xs k 0 ≡ t)
find-at [] t there = absurd (true≢false (sym there))
find-at (x ∷ xs) t there = elim (or_cases (x == t) (has t xs) there) [
  | inl here ↦ (0, omega arith, eqb-true x t here)
  | inr further ↦ let found = find-at xs t further in (suc found.0, omega (arith, found.1), found.2)
]
