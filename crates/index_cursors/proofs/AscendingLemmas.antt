-- Ascending lists of numbers, under a test that holds up to some number and not after it: how many pass it, and where
-- they stand.
use Rattle.std.proofs.Common.{◌≡◌, ℕ, ◌+◌, ◌-◌, ◌<◌, ◌≤◌, suc, zero, Bool, true, false, cond, List, [], ◌∷◌, length, get_or, refl, ap, sym, subst, ◌∙◌, arith}
use Rattle.std.specs.Prelude.{nat_lt, nat_le}
use Rattle.std.specs.List.{count_by}
use Rattle.std.proofs.lemmas.Bool.{and_parts, ltb-true, lt-ltb, le-ltb, leb-true, le-leb, lt-leb}
use Rattle.std.proofs.lemmas.List.Recursion.{is_count_by}
use Rattle.ft_base.specs.Places.{is_ascending}
use Rattle.ft_base.proofs.PlacesLemmas.{rest-ascending}

-- a test that a number passes where a greater one does
abbrev pub HoldsBelow : (ℕ → Bool) → Type 0
HoldsBelow p = (x y : ℕ) → x < y → p y ≡ true → p x ≡ true

abbrev pub passing : (ℕ → Bool) → List ℕ → ℕ
passing p [] = 0
passing p (x ∷ xs) = cond (p x) (1 + passing p xs) (passing p xs)

pub passing-count : (p : ℕ → Bool) (xs : List ℕ) → passing p xs ≡ count_by p xs
passing-count p xs = is_count_by (passing p) p refl (λ x xs. refl) xs

pub head-less : (x y : ℕ) (rest : List ℕ) → is_ascending (x ∷ y ∷ rest) ≡ true → x < y
head-less x y rest up = ltb-true x y (and_parts (nat_lt x y) (is_ascending (y ∷ rest)) up).0

first-less : (x : ℕ) (xs : List ℕ) (i : ℕ) → is_ascending (x ∷ xs) ≡ true → i < length xs → x < get_or xs i 0
first-less x [] i up there = absurd (omega arith)
first-less x (y ∷ rest) zero up there = head-less x y rest up
first-less x (y ∷ rest) (suc i) up there =
    let prefix = head-less x y rest up in
    let after = first-less y rest i (rest-ascending x (y ∷ rest) up) (omega arith) in
    omega arith

module _ (p : ℕ → Bool) (below : HoldsBelow p) where
  fails-after : (x y : ℕ) → x < y → p x ≡ false → p y ≡ false
  fails-after x y less fails = by (p y) refl
    where
      by : (b : Bool) → p y ≡ b → p y ≡ false
      by true e = e ∙ sym (below x y less e) ∙ fails
      by false e = e

  pub none-after : (x : ℕ) (xs : List ℕ) → is_ascending (x ∷ xs) ≡ true → p x ≡ false → passing p xs ≡ 0
  none-after x [] up fails = refl
  none-after x (y ∷ rest) up fails =
      let also = fails-after x y (head-less x y rest up) fails in
      ap (λ b. cond b (1 + passing p rest) (passing p rest)) also ∙ none-after y rest (rest-ascending x (y ∷ rest) up) also

  passes-at : (xs : List ℕ) (i : ℕ) → is_ascending xs ≡ true → i < length xs → p (get_or xs i 0) ≡ true → i < passing p xs
  passes-at [] i up there holds = absurd (omega arith)
  passes-at (x ∷ xs) zero up there holds = subst (λ b. 0 < cond b (1 + passing p xs) (passing p xs)) (sym holds) (omega arith)
  passes-at (x ∷ xs) (suc i) up there holds =
      let rest = passes-at xs i (rest-ascending x xs up) (omega arith) holds in
      let first : p x ≡ true = below x (get_or xs i 0) (first-less x xs i up (omega arith)) holds in
      subst (λ b. suc i < cond b (1 + passing p xs) (passing p xs)) (sym first) (omega arith)

  fails-at : (xs : List ℕ) (i : ℕ) → is_ascending xs ≡ true → i < length xs → p (get_or xs i 0) ≡ false → passing p xs ≤ i
  fails-at [] i up there fails = absurd (omega arith)
  fails-at (x ∷ xs) zero up there fails =
      let none = none-after x xs up fails in
      subst (λ b. cond b (1 + passing p xs) (passing p xs) ≤ 0) (sym fails) (omega arith)
  fails-at (x ∷ xs) (suc i) up there fails = more (p x) (fails-at xs i (rest-ascending x xs up) (omega arith) fails)
    where
      more : (b : Bool) → passing p xs ≤ i → cond b (1 + passing p xs) (passing p xs) ≤ suc i
      more true h = omega arith
      more false h = omega arith

  -- a number that passes is among the first, and one that doesn't is after them
  pub count-passes : (xs : List ℕ) (i : ℕ) → is_ascending xs ≡ true → i < length xs → p (get_or xs i 0) ≡ true → i < count_by p xs
  count-passes xs i up there holds = subst (λ n. i < n) (passing-count p xs) (passes-at xs i up there holds)

  pub count-fails : (xs : List ℕ) (i : ℕ) → is_ascending xs ≡ true → i < length xs → p (get_or xs i 0) ≡ false → count_by p xs ≤ i
  count-fails xs i up there fails = subst (λ n. n ≤ i) (passing-count p xs) (fails-at xs i up there fails)

-- the two tests that are searched by
pub at_most-below : (q x y : ℕ) → x < y → nat_le y q ≡ true → nat_le x q ≡ true
at_most-below q x y less h = let to = leb-true y q h in le-leb x q (omega arith)

pub less-below : (q x y : ℕ) → x < y → nat_lt y q ≡ true → nat_lt x q ≡ true
less-below q x y less h = let to = ltb-true y q h in lt-ltb x q (omega arith)

-- how many are at most a number: no more than that number and 0
few-after : (q x : ℕ) (xs : List ℕ) → is_ascending (x ∷ xs) ≡ true → passing (λ y. nat_le y q) xs ≤ q - x
few-after q x [] up = omega arith
few-after q x (y ∷ rest) up = by (nat_le y q) refl (few-after q y rest (rest-ascending x (y ∷ rest) up)) (head-less x y rest up)
  where
    by : (b : Bool) → nat_le y q ≡ b → passing (λ z. nat_le z q) rest ≤ q - y → x < y → cond b (1 + passing (λ z. nat_le z q) rest) (passing (λ z. nat_le z q) rest) ≤ q - x
    by true e more less = let to = leb-true y q e in omega arith
    by false e more less = omega arith

few : (q : ℕ) (xs : List ℕ) → is_ascending xs ≡ true → passing (λ y. nat_le y q) xs ≤ q + 1
few q [] up = omega arith
few q (x ∷ xs) up = by (nat_le x q)
  where
    by : (b : Bool) → cond b (1 + passing (λ z. nat_le z q) xs) (passing (λ z. nat_le z q) xs) ≤ q + 1
    by true = omega (arith, few-after q x xs up)
    by false = omega (arith, few-after q x xs up)

pub count-few : (q : ℕ) (xs : List ℕ) → is_ascending xs ≡ true → count_by (λ y. nat_le y q) xs ≤ q + 1
count-few q xs up = subst (λ n. n ≤ q + 1) (passing-count (λ y. nat_le y q) xs) (few q xs up)

-- the same by the tests' own words
pub up_to-holds : (q : ℕ) (xs : List ℕ) (i : ℕ) → is_ascending xs ≡ true → i < length xs → get_or xs i 0 ≤ q → i < count_by (λ y. nat_le y q) xs
up_to-holds q xs i up there le = count-passes (λ y. nat_le y q) (at_most-below q) xs i up there (le-leb (get_or xs i 0) q le)

pub up_to-fails : (q : ℕ) (xs : List ℕ) (i : ℕ) → is_ascending xs ≡ true → i < length xs → q < get_or xs i 0 → count_by (λ y. nat_le y q) xs ≤ i
up_to-fails q xs i up there less = count-fails (λ y. nat_le y q) (at_most-below q) xs i up there (lt-leb (get_or xs i 0) q less)

pub below-holds : (q : ℕ) (xs : List ℕ) (i : ℕ) → is_ascending xs ≡ true → i < length xs → get_or xs i 0 < q → i < count_by (λ y. nat_lt y q) xs
below-holds q xs i up there less = count-passes (λ y. nat_lt y q) (less-below q) xs i up there (lt-ltb (get_or xs i 0) q less)

pub below-fails : (q : ℕ) (xs : List ℕ) (i : ℕ) → is_ascending xs ≡ true → i < length xs → q ≤ get_or xs i 0 → count_by (λ y. nat_lt y q) xs ≤ i
below-fails q xs i up there le = count-fails (λ y. nat_lt y q) (less-below q) xs i up there (le-ltb (get_or xs i 0) q le)
