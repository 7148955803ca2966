-- Lists of spots: what is left after a spot where nothing stands up to another one.
use Rattle.std.proofs.Common.{◌≡◌, refl, sym, ap, ◌∙◌, ℕ, zero, suc, ◌+◌, ◌-◌, ◌<◌, ◌≤◌, Bool, true, false, cond, ◌&&◌, List, [], ◌∷◌, ◌++◌, map, filter, flat_map, arith, inl, inr}
use Rattle.std.specs.List.{list_all, range_with_len}
use Rattle.std.proofs.lemmas.Bool.{cases_lt, and_parts}
use Rattle.std.proofs.lemmas.Bool.Decides.{nat_tests}
use Rattle.std.proofs.lemmas.List.Folds.{list_all-append}
use Rattle.place_merges.specs.declared.spot.Spot.{Spot}
use Rattle.place_merges.specs.Spots.{spot, spots_at, spots_between, spots_after}
use Rattle.place_merges.specs.steps.Spotting.{LeadsAfter, SameAfter, is_before}

-- ---- the first spots after one

module _ (to : ℕ) where
  -- where there is room for a word more
  one_spot : (place words : ℕ) → place + suc words ≤ to → spots_after to (spot place words) ≡ spot place (suc words) ∷ spots_after to (spot place (suc words))
  one_spot place words h =
      let many : (to - place) - words ≡ suc ((to - place) - suc words) = omega arith in
      let next : suc words + 1 ≡ suc (suc words) = omega arith in
      ap (λ n. map (spot place) (range_with_len (suc words) n) ++ spots_between (suc place) to) many
      ∙ ap (λ n. spot place (suc words) ∷ (map (spot place) (range_with_len n ((to - place) - suc words)) ++ spots_between (suc place) to)) next

  -- the spots of a place, and those after it
  pub from_place : (place : ℕ) → spots_between place to ≡ spots_after to (spot place 0)
  from_place place = by_size (to - place) refl
    where
      by_size : (n : ℕ) → to - place ≡ n → spots_between place to ≡ spots_after to (spot place 0)
      by_size zero e =
          let none : (to - place) - 0 ≡ 0 = omega arith in
          let later : to - suc place ≡ 0 = omega arith in
          ap (λ n. flat_map (spots_at to) (range_with_len place n)) e
          ∙ sym (λ i. map (spot place) (range_with_len 1 (none i)) ++ flat_map (spots_at to) (range_with_len (suc place) (later i)))
      by_size (suc m) e =
          let all : to - place ≡ (to - place) - 0 = omega arith in
          let later : m ≡ to - suc place = omega arith in
          let next : place + 1 ≡ suc place = omega arith in
          ap (λ n. flat_map (spots_at to) (range_with_len place n)) e
          ∙ (λ i. map (spot place) (range_with_len 1 (all i)) ++ flat_map (spots_at to) (range_with_len (next i) (later i)))

  -- where there is room for none
  row_ends : (place words : ℕ) → to ≤ place + words → spots_after to (spot place words) ≡ spots_after to (spot (suc place) 0)
  row_ends place words h =
      let none : (to - place) - words ≡ 0 = omega arith in
      ap (λ n. map (spot place) (range_with_len (suc words) n) ++ spots_between (suc place) to) none ∙ from_place (suc place)

  pub no_spots : (place words : ℕ) → to ≤ place → spots_after to (spot place words) ≡ []
  no_spots place words h =
      let none : (to - place) - words ≡ 0 = omega arith in
      let later : to - suc place ≡ 0 = omega arith in
      λ i. map (spot place) (range_with_len (suc words) (none i)) ++ flat_map (spots_at to) (range_with_len (suc place) (later i))

-- ---- spots at which a test holds

module _ (test : Spot → Bool) (to : ℕ) where
  abbrev left : ℕ → ℕ → List Spot
  left place words = filter test (spots_after to (spot place words))

  row_jump : (k place words : ℕ) → place + (words + k) ≤ to → ((n : ℕ) → words < n → n ≤ words + k → test (spot place n) ≡ false) → left place words ≡ left place (words + k)
  row_jump zero place words h none = let e : words ≡ words + 0 = omega arith in ap (left place) e
  row_jump (suc k) place words h none =
      let e : suc words + k ≡ words + suc k = omega arith in
      ap (filter test) (one_spot to place words (omega arith))
      ∙ ap (λ b. cond b (spot place (suc words) ∷ left place (suc words)) (left place (suc words))) (none (suc words) (omega arith) (omega arith))
      ∙ row_jump k place (suc words) (omega arith) (λ n a b. none n (omega arith) (omega arith))
      ∙ ap (left place) e

  place_jump : (place words : ℕ) → ((n : ℕ) → words < n → place + n ≤ to → test (spot place n) ≡ false) → left place words ≡ left (suc place) 0
  place_jump place words none = elim (cases_lt (place + words) to) [
    | inl less ↦
        let all : words + ((to - place) - words) ≡ to - place = omega arith in
        row_jump ((to - place) - words) place words (omega arith) (λ n a b. none n a (omega arith))
        ∙ ap (filter test) (row_ends to place (words + ((to - place) - words)) (omega arith))
    | inr most ↦ ap (filter test) (row_ends to place words most)
  ]

  places_jump : (k place : ℕ) → ((q n : ℕ) → place ≤ q → q < place + k → 1 ≤ n → test (spot q n) ≡ false) → left place 0 ≡ left (place + k) 0
  places_jump zero place none = let e : place ≡ place + 0 = omega arith in ap (λ p. left p 0) e
  places_jump (suc k) place none =
      let e : suc place + k ≡ place + suc k = omega arith in
      place_jump place 0 (λ n a b. none place n (omega arith) (omega arith) (omega arith))
      ∙ places_jump k (suc place) (λ q n a b some. none q n (omega arith) (omega arith) some)
      ∙ ap (λ p. left p 0) e

  -- a spot that is led to comes next but for one word
  module _ (at result : Spot) (leads : LeadsAfter test at to result) where
    less_here : (n : ℕ) → at.place ≡ result.place → at.words < n → n < result.words → test (spot at.place n) ≡ false
    less_here n same low high =
        let past : is_before at (spot at.place n) ≡ true = grind (arith, nat_tests) in
        let before : is_before (spot at.place n) result ≡ true = grind (arith, nat_tests) in
        leads.none (spot at.place n) past before (omega arith)

    longer_here : (n : ℕ) → at.place < result.place → at.words < n → test (spot at.place n) ≡ false
    longer_here n less low =
        let past : is_before at (spot at.place n) ≡ true = grind (arith, nat_tests) in
        let before : is_before (spot at.place n) result ≡ true = grind (arith, nat_tests) in
        leads.none (spot at.place n) past before (omega arith)

    between : (q n : ℕ) → at.place < q → q < result.place → 1 ≤ n → test (spot q n) ≡ false
    between q n low high some =
        let past : is_before at (spot q n) ≡ true = grind (arith, nat_tests) in
        let before : is_before (spot q n) result ≡ true = grind (arith, nat_tests) in
        leads.none (spot q n) past before some

    shorter_there : (n : ℕ) → at.place < result.place → 1 ≤ n → n < result.words → test (spot result.place n) ≡ false
    shorter_there n less some high =
        let past : is_before at (spot result.place n) ≡ true = grind (arith, nat_tests) in
        let before : is_before (spot result.place n) result ≡ true = grind (arith, nat_tests) in
        leads.none (spot result.place n) past before some

    same_place : result.place ≤ at.place → (at.place ≡ result.place) × (at.words < result.words)
    same_place h = (grind (arith, nat_tests, leads.ahead), grind (arith, nat_tests, leads.ahead))

    reached : left at.place at.words ≡ left result.place (result.words - 1)
    reached = elim (cases_lt at.place result.place) [
      | inl less ↦
          let start : suc at.place + (result.place - suc at.place) ≡ result.place = omega arith in
          let size : 0 + (result.words - 1) ≡ result.words - 1 = omega arith in
          let within = leads.last in
          place_jump at.place at.words (λ n a b. longer_here n less a)
          ∙ places_jump (result.place - suc at.place) (suc at.place) (λ q n a b some. between q n (omega arith) (omega arith) some)
          ∙ ap (λ p. left p 0) start
          ∙ row_jump (result.words - 1) result.place 0 (omega arith) (λ n a b. shorter_there n less (omega arith) (omega arith))
          ∙ ap (left result.place) size
      | inr most ↦
          let here = same_place most in
          let one = here.0 in
          let less = here.1 in
          let within = leads.last in
          let size : at.words + ((result.words - 1) - at.words) ≡ result.words - 1 = omega arith in
          row_jump ((result.words - 1) - at.words) at.place at.words (omega arith) (λ n a b. less_here n one (omega arith) (omega arith))
          ∙ (λ i. left (one i) (size i))
    ]

    pub left_jumps : result.words ≡ 0 → left at.place at.words ≡ left result.place result.words
    left_jumps none = let size : result.words - 1 ≡ result.words = omega arith in reached ∙ ap (left result.place) size

    pub left_found : 0 < result.words → left at.place at.words ≡ result ∷ left result.place result.words
    left_found some =
        let size : suc (result.words - 1) ≡ result.words = omega arith in
        let within = leads.last in
        reached
        ∙ ap (filter test) (one_spot to result.place (result.words - 1) (omega arith))
        ∙ (λ i. filter test (spot result.place (size i) ∷ spots_after to (spot result.place (size i))))
        ∙ ap (λ b. cond b (result ∷ left result.place result.words) (left result.place result.words)) (leads.there some)

-- ---- tests that are the same after a spot

module _ (to : ℕ) (at : Spot) where
  row_after : (place n k : ℕ) → at.place ≡ place → at.words < n → list_all (is_before at) (map (spot place) (range_with_len n k)) ≡ true
  row_after place n zero same h = refl
  row_after place n (suc k) same h =
      let one : is_before at (spot place n) ≡ true = grind (arith, nat_tests) in
      λ i. one i && row_after place (n + 1) k same (omega arith) i

  later_row : (place n k : ℕ) → at.place < place → list_all (is_before at) (map (spot place) (range_with_len n k)) ≡ true
  later_row place n zero h = refl
  later_row place n (suc k) h =
      let one : is_before at (spot place n) ≡ true = grind (arith, nat_tests) in
      λ i. one i && later_row place (n + 1) k h i

  later_rows : (place k : ℕ) → at.place < place → list_all (is_before at) (flat_map (spots_at to) (range_with_len place k)) ≡ true
  later_rows place zero h = refl
  later_rows place (suc k) h =
      list_all-append (is_before at) (spots_at to place) (flat_map (spots_at to) (range_with_len (place + 1) k))
      ∙ (λ i. later_row place 1 (to - place) h i && later_rows (place + 1) k (omega arith) i)

  all_after : list_all (is_before at) (spots_after to at) ≡ true
  all_after =
      list_all-append (is_before at) (map (spot at.place) (range_with_len (suc at.words) ((to - at.place) - at.words))) (spots_between (suc at.place) to)
      ∙ (λ i. row_after at.place (suc at.words) ((to - at.place) - at.words) refl (omega arith) i && later_rows (suc at.place) (to - suc at.place) (omega arith) i)

filter_on : {X : Type 0} (ok p q : X → Bool) → ((x : X) → ok x ≡ true → p x ≡ q x) → (xs : List X) → list_all ok xs ≡ true → filter p xs ≡ filter q xs
filter_on ok p q same [] h = refl
filter_on ok p q same (x ∷ xs) h =
    let parts = and_parts (ok x) (list_all ok xs) h in
    λ i. cond (same x parts.0 i) (x ∷ filter_on ok p q same xs parts.1 i) (filter_on ok p q same xs parts.1 i)

pub left_same : (to : ℕ) (at : Spot) (new old : Spot → Bool) → SameAfter at new old → filter new (spots_after to at) ≡ filter old (spots_after to at)
left_same to at new old same = filter_on (is_before at) new old same.same (spots_after to at) (all_after to at)
