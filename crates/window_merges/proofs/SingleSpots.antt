-- The spots of variants that are one word each: those of one word at the places that fit one of them.
use Rattle.std.proofs.Common.{◌≡◌, refl, sym, ap, ◌∙◌, ℕ, zero, suc, ◌+◌, ◌-◌, ◌<◌, ◌≤◌, Bool, true, false, cond, ◌&&◌, ◌||◌, List, [], ◌∷◌, ◌++◌, map, filter, flat_map, arith, inl, inr}
use Rattle.std.specs.Prelude.{nat_le}
use Rattle.std.specs.List.{list_any, range_with_len}
use Rattle.std.proofs.Math.Bool.{and-true}
use Rattle.std.proofs.lemmas.Bool.{cases_lt, le-leb, ne_eqb}
use Rattle.std.proofs.lemmas.List.Elements.{filter-append}
use Rattle.place_merges.specs.declared.spot.Spot.{Spot}
use Rattle.place_merges.specs.Places.{Wanted, fits}
use Rattle.place_merges.specs.Spots.{spot, spots_at, spots_between, some_at}

module _ (to : ℕ) (words : List Wanted) where
  abbrev stands : Spot → Bool
  stands at = some_at to (map (λ wanted. wanted ∷ []) words) at

  abbrev some_fits : ℕ → Bool
  some_fits place = list_any (fits place) words

  not_longer : (ws : List Wanted) (place number : ℕ) → 1 < number → some_at to (map (λ wanted. wanted ∷ []) ws) (spot place number) ≡ false
  not_longer [] place number h = refl
  not_longer (w ∷ ws) place number h =
      (λ i. (ne_eqb 1 number (λ e. absurd (omega (arith, h, e))) i && (nat_le (place + 1) to && (fits place w && true))) || not_longer ws place number h i)

  one_word : (ws : List Wanted) (place : ℕ) → place < to → some_at to (map (λ wanted. wanted ∷ []) ws) (spot place 1) ≡ list_any (fits place) ws
  one_word [] place h = refl
  one_word (w ∷ ws) place h =
      λ i. (le-leb (place + 1) to (omega (arith, h)) i && and-true (fits place w) i) || one_word ws place h i

  longer_spots : (place number count : ℕ) → 1 < number → filter stands (map (spot place) (range_with_len number count)) ≡ []
  longer_spots place number zero h = refl
  longer_spots place number (suc count) h =
      ap (λ b. cond b (spot place number ∷ filter stands (map (spot place) (range_with_len (number + 1) count))) (filter stands (map (spot place) (range_with_len (number + 1) count)))) (not_longer words place number h)
      ∙ longer_spots place (number + 1) count (omega (arith, h))

  at_place : (place : ℕ) → place < to → filter stands (spots_at to place) ≡ cond (some_fits place) (spot place 1 ∷ []) []
  at_place place h =
      let many : to - place ≡ suc (to - place - 1) = omega arith in
      ap (λ n. filter stands (map (spot place) (range_with_len 1 n))) many
      ∙ ap (λ b. cond b (spot place 1 ∷ filter stands (map (spot place) (range_with_len 2 (to - place - 1)))) (filter stands (map (spot place) (range_with_len 2 (to - place - 1))))) (one_word words place h)
      ∙ ap (λ l. cond (some_fits place) (spot place 1 ∷ l) l) (longer_spots place 2 (to - place - 1) (omega arith))

  joined : (b : Bool) (place : ℕ) (places : List ℕ) → cond b (spot place 1 ∷ []) [] ++ map (λ p. spot p 1) places ≡ map (λ p. spot p 1) (cond b (place ∷ places) places)
  joined true place places = refl
  joined false place places = refl

  from_on : (from count : ℕ) → from + count ≤ to → filter stands (flat_map (spots_at to) (range_with_len from count)) ≡ map (λ p. spot p 1) (filter some_fits (range_with_len from count))
  from_on from zero h = refl
  from_on from (suc count) h =
      filter-append stands (spots_at to from) (flat_map (spots_at to) (range_with_len (from + 1) count))
      ∙ (λ i. at_place from (omega (arith, h)) i ++ from_on (from + 1) count (omega (arith, h)) i)
      ∙ joined (some_fits from) from (filter some_fits (range_with_len (from + 1) count))

  pub single_spots : (from : ℕ) → filter stands (spots_between from to) ≡ map (λ p. spot p 1) (filter some_fits (range_with_len from (to - from)))
  single_spots from = elim (cases_lt from to) [
    | inl less ↦ from_on from (to - from) (omega (arith, less))
    | inr most ↦
        let none : to - from ≡ 0 = omega (arith, most) in
        (λ i. filter stands (flat_map (spots_at to) (range_with_len from (none i)))) ∙ sym (λ i. map (λ p. spot p 1) (filter some_fits (range_with_len from (none i))))
  ]
