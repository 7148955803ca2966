-- Tests of the numbers of a range.
use Rattle.std.proofs.Common.{◌≡◌, refl, sym, ap, ◌∙◌, subst, ℕ, zero, suc, ◌+◌, ◌<◌, ◌≤◌, Bool, true, true≢false, ◌&&◌, arith, inl, inr}
use Rattle.std.specs.List.{list_all, list_any, range_with_len}
use Rattle.std.proofs.lemmas.Bool.{and_parts, cases_lt, or_cases, or_left, or_right}

module _ (test : ℕ → Bool) where
  -- one that is in the range and passes
  pub record InRange (from count : ℕ) : Type 0 where
    pub number : ℕ
    pub low : from ≤ number
    pub high : number < from + count
    pub holds : test number ≡ true

  pub found_in_range : (from count : ℕ) → list_any test (range_with_len from count) ≡ true → InRange from count
  found_in_range from zero h = absurd (true≢false (sym h))
  found_in_range from (suc count) h = elim (or_cases (test from) (list_any test (range_with_len (from + 1) count)) h) [
    | inl here ↦ record { number = from; low = omega arith; high = omega arith; holds = here }
    | inr there ↦
        let rest = found_in_range (from + 1) count there in
        let low = rest.low in
        let high = rest.high in
        record { number = rest.number; low = omega (arith, low); high = omega (arith, high); holds = rest.holds }
  ]

  pub some_in_range : (from count number : ℕ) → from ≤ number → number < from + count → test number ≡ true → list_any test (range_with_len from count) ≡ true
  some_in_range from zero number low high h = absurd (omega (arith, low, high))
  some_in_range from (suc count) number low high h = elim (cases_lt from number) [
    | inl less ↦ or_right (test from) (list_any test (range_with_len (from + 1) count)) (some_in_range (from + 1) count number (omega (arith, less)) (omega (arith, high)) h)
    | inr most ↦
        let same : number ≡ from = omega (arith, low, most) in
        or_left (test from) (list_any test (range_with_len (from + 1) count)) (subst (λ n. test n ≡ true) same h)
  ]

  pub all_in_range : (from count : ℕ) → ((number : ℕ) → from ≤ number → number < from + count → test number ≡ true) → list_all test (range_with_len from count) ≡ true
  all_in_range from zero h = refl
  all_in_range from (suc count) h =
      λ i. h from (omega arith) (omega arith) i && all_in_range (from + 1) count (λ number low high. h number (omega (arith, low)) (omega (arith, high))) i

  pub one_of_range : (from count number : ℕ) → list_all test (range_with_len from count) ≡ true → from ≤ number → number < from + count → test number ≡ true
  one_of_range from zero number all low high = absurd (omega (arith, low, high))
  one_of_range from (suc count) number all low high =
      let parts = and_parts (test from) (list_all test (range_with_len (from + 1) count)) all in
      elim (cases_lt from number) [
        | inl less ↦ one_of_range (from + 1) count number parts.1 (omega (arith, less)) (omega (arith, high))
        | inr most ↦ let same : from ≡ number = omega (arith, low, most) in sym (ap test same) ∙ parts.0
      ]
