-- Tests of the elements that a filter keeps, and of the spots after one.
use Rattle.std.proofs.Common.{◌≡◌, refl, sym, ap, ◌∙◌, ℕ, Bool, true, false, ◌≤◌, cond, ◌&&◌, ◌||◌, not, List, [], ◌∷◌, filter, arith}
use Rattle.std.specs.List.{list_all, list_any}
use Rattle.std.proofs.lemmas.Bool.{and_parts}
use Rattle.std.proofs.lemmas.Bool.Decides.{nat_tests}
use Rattle.ft_base.specs.Lists.{is_not_empty}
use Rattle.place_merges.specs.Spots.{spots_after}
use Rattle.place_merges.specs.declared.spot.Spot.{Spot}
use Rattle.place_merges.specs.steps.Spotting.{is_before}
use Rattle.place_merges.proofs.SpotLemmas.{left_same}
use Rattle.spot_merges.specs.steps.Covering.{SameAt}

module _ {X : Type 0} (test kept : X → Bool) where
  pub any_kept : (xs : List X) → list_any test (filter kept xs) ≡ list_any (λ x. kept x && test x) xs
  any_kept [] = refl
  any_kept (x ∷ xs) =
      let rest = any_kept xs in
      elim (kept x) as (λ b. list_any test (cond b (x ∷ filter kept xs) (filter kept xs)) ≡ ((b && test x) || list_any (λ y. kept y && test y) xs)) [
        | true ↦ ap (λ b. test x || b) rest
        | false ↦ rest
      ]

  some_left : (xs : List X) → list_any test (filter kept xs) ≡ is_not_empty (filter (λ x. kept x && test x) xs)
  some_left [] = refl
  some_left (x ∷ xs) =
      let rest = some_left xs in
      let both = filter (λ y. kept y && test y) xs in
      elim (kept x) as (λ b. list_any test (cond b (x ∷ filter kept xs) (filter kept xs)) ≡ is_not_empty (cond (b && test x) (x ∷ both) both)) [
        | true ↦ elim (test x) as (λ c. (c || list_any test (filter kept xs)) ≡ is_not_empty (cond c (x ∷ both) both)) [ true ↦ refl | false ↦ rest ]
        | false ↦ rest
      ]

  all_left : (xs : List X) → list_all test (filter (λ x. kept x && test x) xs) ≡ true
  all_left [] = refl
  all_left (x ∷ xs) =
      let rest = all_left xs in
      let both = filter (λ y. kept y && test y) xs in
      elim (kept x) as (λ b. list_all test (cond (b && test x) (x ∷ both) both) ≡ true) [
        | true ↦ by (test x) refl rest
        | false ↦ rest
      ]
    where
      by : (b : Bool) → test x ≡ b → list_all test (filter (λ y. kept y && test y) xs) ≡ true
          → list_all test (cond b (x ∷ filter (λ y. kept y && test y) xs) (filter (λ y. kept y && test y) xs)) ≡ true
      by true is rest = λ i. is i && rest i
      by false is rest = rest

  -- those that are kept pass a test that passes all of them
  pub kept_pass : ((x : X) → kept x ≡ true → test x ≡ true) → (xs : List X) → list_all test (filter kept xs) ≡ true
  kept_pass pass [] = refl
  kept_pass pass (x ∷ xs) = by (kept x) refl (kept_pass pass xs)
    where
      by : (b : Bool) → kept x ≡ b → list_all test (filter kept xs) ≡ true → list_all test (cond b (x ∷ filter kept xs) (filter kept xs)) ≡ true
      by true is rest = λ i. pass x is i && rest i
      by false is rest = rest

pub all_more : {X : Type 0} (test more : X → Bool) → ((x : X) → test x ≡ true → more x ≡ true) → (xs : List X) → list_all test xs ≡ true → list_all more xs ≡ true
all_more test more pass [] h = refl
all_more test more pass (x ∷ xs) h =
    let parts = and_parts (test x) (list_all test xs) h in
    λ i. pass x parts.0 i && all_more test more pass xs parts.1 i

pub any_not_all : {X : Type 0} (test : X → Bool) (xs : List X) → list_any (λ x. not (test x)) xs ≡ not (list_all test xs)
any_not_all test [] = refl
any_not_all test (x ∷ xs) =
    let rest = any_not_all test xs in
    elim (test x) as (λ b. (not b || list_any (λ y. not (test y)) xs) ≡ not (b && list_all test xs)) [ true ↦ rest | false ↦ refl ]

-- two tests that are the same where a third holds
pub any_on : {X : Type 0} (holds test other : X → Bool) → ((x : X) → holds x ≡ true → test x ≡ other x) → (xs : List X) → list_all holds xs ≡ true
    → list_any test xs ≡ list_any other xs
any_on holds test other same [] h = refl
any_on holds test other same (x ∷ xs) h =
    let parts = and_parts (holds x) (list_all holds xs) h in
    λ i. same x parts.0 i || any_on holds test other same xs parts.1 i

pub all_on : {X : Type 0} (holds test other : X → Bool) → ((x : X) → holds x ≡ true → test x ≡ other x) → (xs : List X) → list_all holds xs ≡ true
    → list_all test xs ≡ list_all other xs
all_on holds test other same [] h = refl
all_on holds test other same (x ∷ xs) h =
    let parts = and_parts (holds x) (list_all holds xs) h in
    λ i. same x parts.0 i && all_on holds test other same xs parts.1 i

-- ---- the spots after one

module _ (to : ℕ) (at : Spot) (kept : Spot → Bool) where
  pub any_after : (test other : Spot → Bool) → ((a : Spot) → is_before at a ≡ true → test a ≡ other a)
      → list_any test (filter kept (spots_after to at)) ≡ list_any other (filter kept (spots_after to at))
  any_after test other same =
      some_left test kept (spots_after to at)
      ∙ ap is_not_empty (left_same to at (λ a. kept a && test a) (λ a. kept a && other a) (record { same = λ a h. ap (λ b. kept a && b) (same a h) }))
      ∙ sym (some_left other kept (spots_after to at))

  pub all_after : (test : Spot → Bool) → ((a : Spot) → is_before at a ≡ true → test a ≡ true) → list_all test (filter kept (spots_after to at)) ≡ true
  all_after test holds =
      ap (list_all test) (sym (left_same to at (λ a. kept a && test a) kept (record { same = λ a h. ap (λ b. kept a && b) (holds a h) ∙ kept_alone (kept a) })))
      ∙ all_left test kept (spots_after to at)
    where
      kept_alone : (b : Bool) → (b && true) ≡ b
      kept_alone true = refl
      kept_alone false = refl

  -- two tests that are the same from the spot on
  pub any_from : (test other : Spot → Bool) → SameAt at.place test other → list_any test (at ∷ filter kept (spots_after to at)) ≡ list_any other (at ∷ filter kept (spots_after to at))
  any_from test other same = λ i. same.same at (omega arith) i || any_after test other (λ a h. same.same a (later a h)) i
    where
      later : (a : Spot) → is_before at a ≡ true → at.place ≤ a.place
      later a h = grind (arith, nat_tests, h)
