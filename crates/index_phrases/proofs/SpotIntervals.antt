-- The spots of a part of a text are the intervals of the part, and tests that agree on them leave the same.
use Rattle.std.proofs.Common.{◌≡◌, refl, sym, ap, ◌∙◌, ℕ, zero, suc, ◌+◌, ◌-◌, ◌≤◌, Bool, true, false, cond, List, ◌∷◌, ◌++◌, map, filter, flat_map, arith}
use Rattle.std.specs.List.{range_with_len}
use Rattle.std.proofs.lemmas.List.{map-append}
use Rattle.std.proofs.lemmas.List.Elements.{filter-append}
use Rattle.all_matches.specs.Hits.{Interval, intervals}
use Rattle.place_merges.specs.declared.spot.Spot.{Spot}
use Rattle.place_merges.specs.Spots.{spot, spots_at, spots_between}

abbrev pub on : ℕ → ℕ → Interval
on from to = record { from = from; to = to }

module _ {A B Z : Type 0} (p : A → Bool) (h : A → Z) (q : B → Bool) (f : B → Z) where
  one_more : (x : A) (y : B) (xs : List A) (ys : List B) → p x ≡ q y → h x ≡ f y → map h (filter p xs) ≡ map f (filter q ys) → map h (filter p (x ∷ xs)) ≡ map f (filter q (y ∷ ys))
  one_more x y xs ys tests values rest =
      ap (λ b. map h (cond b (x ∷ filter p xs) (filter p xs))) tests ∙ by_test (q y)
    where
      by_test : (b : Bool) → map h (cond b (x ∷ filter p xs) (filter p xs)) ≡ map f (cond b (y ∷ filter q ys) (filter q ys))
      by_test true = λ i. values i ∷ rest i
      by_test false = rest

  after : (xs more : List A) (ys others : List B) → map h (filter p xs) ≡ map f (filter q ys) → map h (filter p more) ≡ map f (filter q others)
      → map h (filter p (xs ++ more)) ≡ map f (filter q (ys ++ others))
  after xs more ys others first rest =
      ap (map h) (filter-append p xs more)
      ∙ map-append h (filter p xs) (filter p more)
      ∙ (λ i. first i ++ rest i)
      ∙ sym (ap (map f) (filter-append q ys others) ∙ map-append f (filter q ys) (filter q others))

-- a test and a value of a spot are those of its interval
pub record Agrees {Z : Type 0} (k m : ℕ) (p : Spot → Bool) (h : Spot → Z) (q : Interval → Bool) (f : Interval → Z) : Type 0 where
  pub tests : (from to : ℕ) → 1 ≤ from → from ≤ to → to ≤ m → p (spot (k + from) (suc to - from)) ≡ q (on from to)
  pub values : (from to : ℕ) → 1 ≤ from → from ≤ to → to ≤ m → h (spot (k + from) (suc to - from)) ≡ f (on from to)

module _ {Z : Type 0} (k m : ℕ) (p : Spot → Bool) (h : Spot → Z) (q : Interval → Bool) (f : Interval → Z) (agrees : Agrees k m p h q f) where
  row : (place from to words size : ℕ) → place ≡ k + from → words ≡ suc to - from → 1 ≤ from → from ≤ to → to + size ≤ suc m
      → map h (filter p (map (spot place) (range_with_len words size))) ≡ map f (filter q (map (on from) (range_with_len to size)))
  row place from to words zero at long first order last = refl
  row place from to words (suc size) at long first order last =
      one_more p h q f (spot place words) (on from to) (map (spot place) (range_with_len (words + 1) size)) (map (on from) (range_with_len (to + 1) size))
      (ap p (λ i. spot (at i) (long i)) ∙ agrees.tests from to first order (omega (arith, last)))
      (ap h (λ i. spot (at i) (long i)) ∙ agrees.values from to first order (omega (arith, last)))
      (row place from (to + 1) (words + 1) size at (omega (arith, long, order)) first (omega (arith, order)) (omega (arith, last)))

  rows : (place from size : ℕ) → place ≡ k + from → 1 ≤ from → from + size ≤ suc m
      → map h (filter p (flat_map (spots_at (suc (k + m))) (range_with_len place size)))
      ≡ map f (filter q (flat_map (λ a. map (on a) (range_with_len a (suc m - a))) (range_with_len from size)))
  rows place from zero at first last = refl
  rows place from (suc size) at first last =
      let many : suc (k + m) - place ≡ suc m - from = omega (arith, at) in
      let one : 1 ≡ suc from - from = omega arith in
      after p h q f (spots_at (suc (k + m)) place) (flat_map (spots_at (suc (k + m))) (range_with_len (place + 1) size))
      (map (on from) (range_with_len from (suc m - from))) (flat_map (λ a. map (on a) (range_with_len a (suc m - a))) (range_with_len (from + 1) size))
      (ap (λ n. map h (filter p (map (spot place) (range_with_len 1 n)))) many
      ∙ row place from from 1 (suc m - from) at one first (omega arith) (omega (arith, last)))
      (rows (place + 1) (from + 1) size (omega (arith, at)) (omega arith) (omega (arith, last)))

  pub as_intervals : map h (filter p (spots_between (suc k) (suc (k + m)))) ≡ map f (filter q (intervals m))
  as_intervals =
      let size : suc (k + m) - suc k ≡ m = omega arith in
      ap (λ n. map h (filter p (flat_map (spots_at (suc (k + m))) (range_with_len (suc k) n)))) size
      ∙ rows (suc k) 1 m (omega arith) (omega arith) (omega arith)
