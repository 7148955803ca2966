-- Occurrences counted up to the least number that tells as much as every greater one.
use Rattle.std.proofs.Common.{◌≡◌, refl, sym, ap, ◌∙◌, ℕ, ◌+◌, ◌==◌, min, Bool, true, false, ◌&&◌, Option, Some, None, arith, inl, inr}
use Rattle.std.specs.Prelude.{nat_le, nat_lt}
use Rattle.std.proofs.lemmas.Bool.{cases_lt, le-leb, lt-leb, lt-ltb, ne_eqb}
use Rattle.ft_base.specs.declared.range.Range.{Range}
use Rattle.ft_base.specs.declared.range.Range.TheVariants as In
use Rattle.all_matches.specs.Compositional.{enough}
use Rattle.all_matches.specs.Times.{number_in_range}
use Rattle.plan_runs.specs.steps.Telling.{telling, telling_in}

no_two : (a b : Bool) → (a && false) ≡ (b && false)
no_two true true = refl
no_two true false = refl
no_two false true = refl
no_two false false = refl

range_tells : (range : Range) (number : ℕ) → number_in_range range (min number (telling_in range)) ≡ number_in_range range number
range_tells (In.Exactly n) number = elim (cases_lt number (n + 1)) [
  | inl small ↦ let same : min number (n + 1) ≡ number = omega arith in ap (λ m. m == n) same
  | inr large ↦ ne_eqb (min number (n + 1)) n (λ e. omega arith) ∙ sym (ne_eqb number n (λ e. omega arith))
]
range_tells (In.AtLeast n) number = elim (cases_lt number n) [
  | inl small ↦ let same : min number n ≡ number = omega arith in ap (nat_le n) same
  | inr large ↦ le-leb n (min number n) (omega arith) ∙ sym (le-leb n number large)
]
range_tells (In.AtMost n) number = elim (cases_lt number (n + 1)) [
  | inl small ↦ let same : min number (n + 1) ≡ number = omega arith in ap (λ m. nat_le m n) same
  | inr large ↦ lt-leb (min number (n + 1)) n (omega arith) ∙ sym (lt-leb number n (omega arith))
]
range_tells (In.FromTo low high) number = elim (cases_lt number (high + 1)) [
  | inl small ↦ let same : min number (high + 1) ≡ number = omega arith in ap (λ m. nat_le low m && nat_le m high) same
  | inr large ↦
      ap (λ b. nat_le low (min number (high + 1)) && b) (lt-leb (min number (high + 1)) high (omega arith))
      ∙ no_two (nat_le low (min number (high + 1))) (nat_le low number)
      ∙ sym (ap (λ b. nat_le low number && b) (lt-leb number high (omega arith)))
]

pub times_tell : (times : Option Range) (number : ℕ) → enough times (min number (telling times)) ≡ enough times number
times_tell None number = elim (cases_lt number 1) [
  | inl small ↦ let same : min number 1 ≡ number = omega arith in ap (nat_lt 0) same
  | inr large ↦ lt-ltb 0 (min number 1) (omega arith) ∙ sym (lt-ltb 0 number (omega arith))
]
times_tell (Some range) number = range_tells range number
