-- The intervals that lie in a part of a text are those of the part, moved.
use Rattle.std.proofs.Common.{◌≡◌, refl, ap, sym, ◌∙◌, ℕ, zero, suc, ◌+◌, ◌-◌, ◌<◌, ◌≤◌, List, [], ◌∷◌, ◌++◌, Bool, true, false, ◌&&◌, cond, arith}
use Rattle.std.specs.Prelude.{map, filter, flat_map, nat_lt, nat_le}
use Rattle.std.specs.List.{range_with_len}
use Rattle.std.proofs.lemmas.Bool.Decides.{nat_tests}
use Rattle.std.proofs.lemmas.List.{append-nil, map-append}
use Rattle.std.proofs.lemmas.List.Elements.{filter-append}
use Rattle.std.proofs.lemmas.Grind.{flat_map-append}
use Rattle.all_matches.specs.Hits.{Interval, intervals}

range_split : (b x y : ℕ) → range_with_len b (x + y) ≡ range_with_len b x ++ range_with_len (b + x) y
range_split b zero y = let n : zero + y ≡ y = omega arith in let c : b ≡ b + zero = omega arith in λ i. range_with_len (c i) (n i)
range_split b (suc x) y =
    let n : suc x + y ≡ suc (x + y) = omega arith in
    let c : (b + 1) + x ≡ b + suc x = omega arith in
    ap (range_with_len b) n ∙ ap (λ ks. b ∷ ks) (range_split (b + 1) x y ∙ ap (λ s. range_with_len (b + 1) x ++ range_with_len s y) c)

abbrev no_intervals : ℕ → List Interval
no_intervals a = []

none_left : (xs : List ℕ) → flat_map no_intervals xs ≡ []
none_left [] = refl
none_left (x ∷ xs) = none_left xs

module _ {X : Type 0} (p : X → Bool) where
  none_passes : (f : ℕ → X) (b n : ℕ) → ((j : ℕ) → b ≤ j → p (f j) ≡ false) → filter p (map f (range_with_len b n)) ≡ []
  none_passes f b zero each = refl
  none_passes f b (suc n) each =
      let same : b ≤ b = omega arith in
      (λ i. cond (each b same i) (f b ∷ filter p (map f (range_with_len (b + 1) n))) (filter p (map f (range_with_len (b + 1) n))))
      ∙ none_passes f (b + 1) n (λ j above. each j (omega arith))

  each_passes : (f : ℕ → X) (b n : ℕ) → ((j : ℕ) → b ≤ j → j < b + n → p (f j) ≡ true) → filter p (map f (range_with_len b n)) ≡ map f (range_with_len b n)
  each_passes f b zero each = refl
  each_passes f b (suc n) each =
      let same : b ≤ b = omega arith in
      let less : b < b + suc n = omega arith in
      let rest = each_passes f (b + 1) n (λ (j : ℕ) (above : b + 1 ≤ j) (below : j < (b + 1) + n). each j (omega arith) (omega arith)) in
      λ i. cond (each b same less i) (f b ∷ rest i) (rest i)

  rows_are : (f g : ℕ → List X) (b x : ℕ) → ((a : ℕ) → b ≤ a → a < b + x → filter p (f a) ≡ g a) → filter p (flat_map f (range_with_len b x)) ≡ flat_map g (range_with_len b x)
  rows_are f g b zero each = refl
  rows_are f g b (suc x) each =
      let same : b ≤ b = omega arith in
      let less : b < b + suc x = omega arith in
      filter-append p (f b) (flat_map f (range_with_len (b + 1) x))
      ∙ (λ i. each b same less i ++ rows_are f g (b + 1) x (λ (a : ℕ) (above : b + 1 ≤ a) (below : a < (b + 1) + x). each a (omega arith) (omega arith)) i)

module _ (n k m : ℕ) where
  abbrev on : ℕ → ℕ → Interval
  on from to = record { from = from; to = to }

  abbrev pub inside : Interval → Bool
  inside i = nat_lt k i.from && nat_le i.to (k + m)

  abbrev pub row : ℕ → ℕ → List Interval
  row size a = map (on a) (range_with_len a (suc size - a))

  outside_low : (a j : ℕ) → a ≤ k → (nat_lt k a && nat_le j (k + m)) ≡ false
  outside_low a j low = grind (arith, nat_tests)

  outside_high : (a j : ℕ) → k + m < j → (nat_lt k a && nat_le j (k + m)) ≡ false
  outside_high a j high = grind (arith, nat_tests)

  within : (a j : ℕ) → k < a → j ≤ k + m → (nat_lt k a && nat_le j (k + m)) ≡ true
  within a j low high = grind (arith, nat_tests)

  row_before : (a : ℕ) → a ≤ k → filter inside (row n a) ≡ []
  row_before a low = none_passes inside (on a) a (suc n - a) (λ j above. outside_low a j low)

  row_after : (a : ℕ) → k + m < a → filter inside (row n a) ≡ []
  row_after a high = none_passes inside (on a) a (suc n - a) (λ j above. outside_high a j (omega arith))

  row_within : (a : ℕ) → k < a → a ≤ k + m → k + m ≤ n → filter inside (row n a) ≡ row (k + m) a
  row_within a low high fits =
      let parts : suc n - a ≡ (suc (k + m) - a) + (n - (k + m)) = omega arith in
      let next : a + (suc (k + m) - a) ≡ suc (k + m) = omega arith in
      ap (λ len. filter inside (map (on a) (range_with_len a len))) parts
      ∙ ap (λ ks. filter inside (map (on a) ks)) (range_split a (suc (k + m) - a) (n - (k + m)))
      ∙ ap (filter inside) (map-append (on a) (range_with_len a (suc (k + m) - a)) (range_with_len (a + (suc (k + m) - a)) (n - (k + m))))
      ∙ filter-append inside (row (k + m) a) (map (on a) (range_with_len (a + (suc (k + m) - a)) (n - (k + m))))
      ∙ (λ i. each_passes inside (on a) a (suc (k + m) - a) (λ j above below. within a j low (omega arith)) i
      ++ none_passes inside (on a) (a + (suc (k + m) - a)) (n - (k + m)) (λ j above. outside_high a j (omega arith)) i)
      ∙ append-nil (row (k + m) a)

  in_part : k + m ≤ n → filter inside (intervals n) ≡ flat_map (row (k + m)) (range_with_len (1 + k) m)
  in_part fits =
      let size : n ≡ k + (m + (n - (k + m))) = omega arith in
      ap (λ s. filter inside (flat_map (row n) (range_with_len 1 s))) size
      ∙ ap (λ ks. filter inside (flat_map (row n) ks)) (range_split 1 k (m + (n - (k + m))) ∙ ap (λ ks. range_with_len 1 k ++ ks) (range_split (1 + k) m (n - (k + m))))
      ∙ ap (filter inside) (flat_map-append (row n) (range_with_len 1 k) (range_with_len (1 + k) m ++ range_with_len ((1 + k) + m) (n - (k + m)))
      ∙ ap (λ xs. flat_map (row n) (range_with_len 1 k) ++ xs) (flat_map-append (row n) (range_with_len (1 + k) m) (range_with_len ((1 + k) + m) (n - (k + m)))))
      ∙ filter-append inside (flat_map (row n) (range_with_len 1 k)) (flat_map (row n) (range_with_len (1 + k) m) ++ flat_map (row n) (range_with_len ((1 + k) + m) (n - (k + m))))
      ∙ ap (λ xs. filter inside (flat_map (row n) (range_with_len 1 k)) ++ xs) (filter-append inside (flat_map (row n) (range_with_len (1 + k) m)) (flat_map (row n) (range_with_len ((1 + k) + m) (n - (k + m)))))
      ∙ (λ i. (rows_are inside (row n) no_intervals 1 k (λ a above below. row_before a (omega arith)) ∙ none_left (range_with_len 1 k)) i
      ++ (rows_are inside (row n) (row (k + m)) (1 + k) m (λ a above below. row_within a (omega arith) (omega arith) fits) i
      ++ (rows_are inside (row n) no_intervals ((1 + k) + m) (n - (k + m)) (λ a above below. row_after a (omega arith)) ∙ none_left (range_with_len ((1 + k) + m) (n - (k + m)))) i))
      ∙ append-nil (flat_map (row (k + m)) (range_with_len (1 + k) m))

  -- an interval of the part, in the whole text
  abbrev pub moved_by : Interval → Interval
  moved_by i = record { from = k + i.from; to = k + i.to }

  moved_row : (a b x : ℕ) → map (on (k + a)) (range_with_len (k + b) x) ≡ map moved_by (map (on a) (range_with_len b x))
  moved_row a b zero = refl
  moved_row a b (suc x) =
      let next : (k + b) + 1 ≡ k + (b + 1) = omega arith in
      ap (λ is. on (k + a) (k + b) ∷ is) (ap (λ s. map (on (k + a)) (range_with_len s x)) next ∙ moved_row a (b + 1) x)

  moved_rows : (b x : ℕ) → flat_map (row (k + m)) (range_with_len (k + b) x) ≡ map moved_by (flat_map (row m) (range_with_len b x))
  moved_rows b zero = refl
  moved_rows b (suc x) =
      let next : (k + b) + 1 ≡ k + (b + 1) = omega arith in
      let len : suc (k + m) - (k + b) ≡ suc m - b = omega arith in
      (λ i. (ap (λ l. map (on (k + b)) (range_with_len (k + b) l)) len ∙ moved_row b b (suc m - b)) i
      ++ (ap (λ s. flat_map (row (k + m)) (range_with_len s x)) next ∙ moved_rows (b + 1) x) i)
      ∙ sym (map-append moved_by (row m b) (flat_map (row m) (range_with_len (b + 1) x)))

  pub intervals_in : k + m ≤ n → filter inside (intervals n) ≡ map moved_by (intervals m)
  intervals_in fits =
      let start : 1 + k ≡ k + 1 = omega arith in
      in_part fits ∙ ap (λ s. flat_map (row (k + m)) (range_with_len s m)) start ∙ moved_rows 1 m
