-- Ascending places: what is left of them, and how great they are.
use Rattle.std.proofs.Common.{◌≡◌, ℕ, ◌+◌, ◌<◌, ◌≤◌, nat_lt, true, All, List, [], ◌∷◌, ◌++◌, Some, map, drop, length, get_or, add-one, drop-cons, append_assoc, refl, sym, ap, ◌∙◌, subst, arith}
use Rattle.std.proofs.lemmas.Bool.{and_parts, ltb-true}
use Rattle.std.proofs.lemmas.List.Elements.{All-nil, All-cons, All-get_or, All-head}
use Rattle.std.specs.Option.{ForSome}
use Rattle.ft_base.specs.Places.{is_ascending, last_place}
use Rattle.ft_base.proofs.PlacesLemmas.{ascending-drop, last_place-push}

-- what stands after a place is greater than it
pub above : (b w x : ℕ) (xs : List ℕ) → w ≤ x → is_ascending (x ∷ xs) ≡ true → All (λ p. b + w < b + p) xs
above b w x [] least up = All-nil (λ p. b + w < b + p)
above b w x (y ∷ ys) least up =
    let parts = and_parts (nat_lt x y) (is_ascending (y ∷ ys)) up in
    let more : x < y = ltb-true x y parts.0 in
    All-cons (λ p. b + w < b + p) y ys (omega (arith, least, more)) (above b w y ys (omega (arith, least, more)) parts.1)

-- no place is greater than the last one
pub all-most : (b most : ℕ) (xs : List ℕ) → is_ascending xs ≡ true → ForSome (last_place xs) (λ last. b + last ≤ most) → All (λ p. b + p ≤ most) xs
all-most b most [] up last = All-nil (λ p. b + p ≤ most)
all-most b most (x ∷ []) up last = All-cons (λ p. b + p ≤ most) x [] (last x refl) (All-nil (λ p. b + p ≤ most))
all-most b most (x ∷ y ∷ ys) up last =
    let parts = and_parts (nat_lt x y) (is_ascending (y ∷ ys)) up in
    let more : x < y = ltb-true x y parts.0 in
    let others = all-most b most (y ∷ ys) parts.1 last in
    All-cons (λ p. b + p ≤ most) x (y ∷ ys) (omega (arith, All-head (λ p. b + p ≤ most) y ys others, more)) others

-- ---- one place further

module _ (before : ℕ) (items : List ℕ) (i : ℕ) (more : i < length items) where
  pub left-head : drop i items ≡ get_or items i 0 ∷ drop (i + 1) items
  left-head = drop-cons items i 0 more ∙ ap (λ k. get_or items i 0 ∷ drop k items) (sym (add-one i))

  pub next-above : (last : ℕ) → All (λ p. last < before + p) (drop i items) → last < before + get_or items i 0
  next-above last all = All-head (λ p. last < before + p) (get_or items i 0) (drop (i + 1) items) (subst (All (λ p. last < before + p)) left-head all)

  pub next-most : (most : ℕ) → is_ascending items ≡ true → ForSome (last_place items) (λ last. before + last ≤ most) → before + get_or items i 0 ≤ most
  next-most most up last = All-get_or (λ p. before + p ≤ most) items i 0 more (all-most before most items up last)

  pub rest-above : is_ascending items ≡ true → All (λ p. before + get_or items i 0 < before + p) (drop (i + 1) items)
  rest-above up =
      let least : get_or items i 0 ≤ get_or items i 0 = omega arith in
      above before (get_or items i 0) (get_or items i 0) (drop (i + 1) items) least (ap is_ascending (sym left-head) ∙ ascending-drop i items up)

-- one of those that were to be put to the end was
pub pushed-done : (before place : ℕ) (left rest places new all : List ℕ) → left ≡ place ∷ rest → new ≡ places ++ (before + place) ∷ [] → places ++ map (λ p. before + p) left ≡ all
    → new ++ map (λ p. before + p) rest ≡ all
pushed-done before place left rest places new all head pushed so_far =
    ap (λ l. l ++ map (λ p. before + p) rest) pushed ∙ append_assoc places ((before + place) ∷ []) (map (λ p. before + p) rest)
    ∙ ap (λ l. places ++ map (λ p. before + p) l) (sym head) ∙ so_far

-- the last place is the one that was pushed
pub last-pushed : (places new : List ℕ) (place x : ℕ) → new ≡ places ++ place ∷ [] → last_place new ≡ Some x → place ≡ x
last-pushed places new place x pushed last =
    let same : Some place ≡ Some x = sym (last_place-push places place) ∙ ap last_place (sym pushed) ∙ last in cc
