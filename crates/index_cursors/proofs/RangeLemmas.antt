-- The hits of single words at all places of a span.
use Rattle.std.proofs.Common.{◌≡◌, ℕ, ◌+◌, ◌-◌, ◌<◌, ◌≤◌, suc, zero, true, cond, ◌&&◌, [], ◌∷◌, length, drop, refl, ap, ◌∙◌, arith, inl, inr}
use Rattle.std.specs.Prelude.{nat_lt, take_while, map, Some, None}
use Rattle.std.specs.List.{range_with_len}
use Rattle.std.proofs.lemmas.Bool.{cases_lt, lt-ltb, le-ltb}
use Rattle.std.proofs.lemmas.Option.{slice_get-get_or, slice_get_past}
use Rattle.std.proofs.lemmas.List.{drop-map}
use Rattle.std.proofs.lemmas.List.FromFn.{length-map-range_with_len, get_or-map-range_with_len}
use Rattle.std.proofs.lemmas.List.Sums.{take_while-cons}
use Rattle.ft_base.specs.declared.hit.Hit.{Hit}
use Rattle.ft_base.specs.declared.places.Breaks.{Breaks}
use Rattle.ft_base.specs.Places.{is_ascending}
use Rattle.ft_base.specs.Hits.{hit_place, hit_at, is_sorted, hits_passed, sought}
use Rattle.index_cursors.specs.SpanHits.{word_hit}
use Rattle.index_cursors.proofs.SpanLemmas.{words-sorted}

range-drop : (a n k : ℕ) → k ≤ n → drop k (range_with_len a n) ≡ range_with_len (a + k) (n - k)
range-drop a n zero h =
    let first : a ≡ a + 0 = omega arith in
    let size : n ≡ n - 0 = omega arith in
    λ i. range_with_len (first i) (size i)
range-drop a zero (suc k) h = absurd (omega arith)
range-drop a (suc n) (suc k) h =
    let first : a + 1 + k ≡ a + suc k = omega arith in
    let size : n - k ≡ suc n - suc k = omega arith in
    range-drop (a + 1) n k (omega arith) ∙ (λ i. range_with_len (first i) (size i))

range-ascending : (a n : ℕ) → is_ascending (range_with_len a n) ≡ true
range-ascending a zero = refl
range-ascending a (suc zero) = refl
range-ascending a (suc (suc n)) =
    let less : nat_lt a (a + 1) ≡ true = lt-ltb a (a + 1) (omega arith) in
    let rest = range-ascending (a + 1) (suc n) in
    λ i. less i && rest i

range-prefix : (breaks : Breaks) (a n q : ℕ) → length (take_while (λ hit. nat_lt hit.from q) (map (word_hit breaks) (range_with_len a n))) ≡ n - (n - (q - a))
range-prefix breaks a zero q = omega arith
range-prefix breaks a (suc n) q = elim (cases_lt a q) [
  | inl less ↦
      let rest = range-prefix breaks (a + 1) n q in
      let sum : suc (length (take_while (λ (hit : Hit). nat_lt hit.from q) (map (word_hit breaks) (range_with_len (a + 1) n)))) ≡ suc n - (suc n - (q - a)) = omega arith in
      ap length (take_while-cons (λ (hit : Hit). nat_lt hit.from q) (word_hit breaks a) (map (word_hit breaks) (range_with_len (a + 1) n)))
      ∙ ap (λ b. length (cond b (word_hit breaks a ∷ take_while (λ (hit : Hit). nat_lt hit.from q) (map (word_hit breaks) (range_with_len (a + 1) n))) [])) (lt-ltb a q less)
      ∙ sum
  | inr le ↦
      let sum : 0 ≡ suc n - (suc n - (q - a)) = omega arith in
      ap length (take_while-cons (λ (hit : Hit). nat_lt hit.from q) (word_hit breaks a) (map (word_hit breaks) (range_with_len (a + 1) n)))
      ∙ ap (λ b. length (cond b (word_hit breaks a ∷ take_while (λ (hit : Hit). nat_lt hit.from q) (map (word_hit breaks) (range_with_len (a + 1) n))) [])) (le-ltb a q le)
      ∙ sum
]

pub every-sorted : (breaks : Breaks) (a n : ℕ) → is_sorted (map (word_hit breaks) (range_with_len a n)) ≡ true
every-sorted breaks a n = words-sorted breaks (range_with_len a n) (range-ascending a n)

module _ (breaks : Breaks) (from to at : ℕ) (order : from ≤ at) (within : at - from ≤ to - from) where
  pub every-hit : at < to → hit_at (hit_place (map (word_hit breaks) (range_with_len from (to - from))) (at - from)) ≡ Some (word_hit breaks at)
  every-hit less =
      let there : at - from < to - from = omega arith in
      let sum : from + (at - from) ≡ at = omega arith in
      let size = length-map-range_with_len (word_hit breaks) from (to - from) in
      slice_get-get_or (map (word_hit breaks) (range_with_len from (to - from))) (at - from) (word_hit breaks at) (omega arith)
      ∙ ap Some (get_or-map-range_with_len (word_hit breaks) from (to - from) (at - from) at (word_hit breaks at) there sum)

  pub every-end : to ≤ at → hit_at (hit_place (map (word_hit breaks) (range_with_len from (to - from))) (at - from)) ≡ None
  every-end past =
      let size = length-map-range_with_len (word_hit breaks) from (to - from) in
      slice_get_past (map (word_hit breaks) (range_with_len from (to - from))) (at - from) (omega arith)

  pub every-passed : (q : ℕ) → hits_passed q (hit_place (map (word_hit breaks) (range_with_len from (to - from))) (at - from)) ≡ (to - at) - ((to - at) - (q - at))
  every-passed q =
      let sum : from + (at - from) ≡ at = omega arith in
      let rest : (to - from) - (at - from) ≡ to - at = omega arith in
      let left : drop (at - from) (range_with_len from (to - from)) ≡ range_with_len at (to - at) =
      range-drop from (to - from) (at - from) within ∙ (λ i. range_with_len (sum i) (rest i)) in
      ap (λ l. length (take_while (λ (hit : Hit). nat_lt hit.from q) l)) (drop-map (word_hit breaks) (at - from) (range_with_len from (to - from)) ∙ ap (map (word_hit breaks)) left)
      ∙ range-prefix breaks at (to - at) q

  pub every-sought : (q : ℕ) →
      hit_place (map (word_hit breaks) (range_with_len from (to - from))) ((at + ((to - at) - ((to - at) - (q - at)))) - from)
      ≡ sought q (hit_place (map (word_hit breaks) (range_with_len from (to - from))) (at - from))
  every-sought q =
      let e : (at + ((to - at) - ((to - at) - (q - at)))) - from ≡ (at - from) + hits_passed q (hit_place (map (word_hit breaks) (range_with_len from (to - from))) (at - from)) = omega (arith, every-passed q) in
      ap (hit_place (map (word_hit breaks) (range_with_len from (to - from)))) e
