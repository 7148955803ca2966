-- A test holds at some spot of a span exactly where there is such a spot.
use Rattle.std.proofs.Common.{◌≡◌, refl, sym, ap, subst, ◌∙◌, ℕ, zero, suc, ◌+◌, ◌-◌, ◌<◌, ◌≤◌, Bool, true, false, true≢false, ◌==◌, cond, not, ◌&&◌, List, [], ◌∷◌, filter, flat_map, arith, inl, inr}
use Rattle.std.specs.Prelude.{nat_le, length}
use Rattle.std.specs.List.{list_all, list_any, range_with_len}
use Rattle.std.proofs.lemmas.Bool.{and_from, and_parts, cases_lt, le-leb, leb-true, or_cases, or_left, or_right}
use Rattle.std.proofs.lemmas.Bool.Decides.{nat_tests}
use Rattle.std.proofs.lemmas.List.Folds.{list_any-append}
use Rattle.all_matches.proofs.ListTests.{list_any-map}
use Rattle.ft_base.specs.declared.span.Span.{Span}
use Rattle.place_merges.specs.Places.{Wanted, stands_before}
use Rattle.place_merges.specs.Spots.{some_at, spot, spots_at, spots_between}
use Rattle.place_merges.specs.declared.spot.Spot.{Spot}
use Rattle.spot_merges.specs.Edges.{spots_of}
use Rattle.spot_merges.proofs.RangeTests.{found_in_range, some_in_range}
use Rattle.spot_merges.proofs.SpotTests.{any_not_all, kept_pass}

-- a spot from one place on, before another, at which the test holds
pub record IsThere (test : Spot → Bool) (from to : ℕ) : Type 0 where
  pub at : Spot
  pub first : from ≤ at.place
  pub some : 1 ≤ at.words
  pub last : at.place + at.words ≤ to
  pub holds : test at ≡ true

module _ (test : Spot → Bool) (to : ℕ) where
  rows_found : (from count : ℕ) → list_any test (flat_map (spots_at to) (range_with_len from count)) ≡ true → IsThere test from to
  rows_found from zero h = absurd (true≢false (sym h))
  rows_found from (suc count) h =
      let apart = sym (list_any-append test (spots_at to from) (flat_map (spots_at to) (range_with_len (from + 1) count))) ∙ h in
      elim (or_cases (list_any test (spots_at to from)) (list_any test (flat_map (spots_at to) (range_with_len (from + 1) count))) apart) [
        | inl here ↦
            let row = found_in_range (λ words. test (spot from words)) 1 (to - from) (sym (list_any-map test (spot from) (range_with_len 1 (to - from))) ∙ here) in
            let low = row.low in
            let high = row.high in
            record { at = spot from row.number; first = omega arith; some = low; last = omega (arith, low, high); holds = row.holds }
        | inr there ↦
            let rest = rows_found (from + 1) count there in
            let first = rest.first in
            record { at = rest.at; first = omega (arith, first); some = rest.some; last = rest.last; holds = rest.holds }
      ]

  rows_have : (from count : ℕ) (at : Spot) → from ≤ at.place → at.place < from + count → 1 ≤ at.words → at.place + at.words ≤ to → test at ≡ true
      → list_any test (flat_map (spots_at to) (range_with_len from count)) ≡ true
  rows_have from zero at low high some last h = absurd (omega (arith, low, high))
  rows_have from (suc count) at low high some last h = list_any-append test (spots_at to from) (flat_map (spots_at to) (range_with_len (from + 1) count)) ∙ elim (cases_lt from at.place) [
    | inl less ↦ or_right (list_any test (spots_at to from)) (list_any test (flat_map (spots_at to) (range_with_len (from + 1) count)))
        (rows_have (from + 1) count at (omega (arith, less)) (omega (arith, high)) some last h)
    | inr most ↦
        let same : at.place ≡ from = omega (arith, low, most) in
        or_left (list_any test (spots_at to from)) (list_any test (flat_map (spots_at to) (range_with_len (from + 1) count)))
        (subst (λ p. list_any test (spots_at to p) ≡ true) same
        (list_any-map test (spot at.place) (range_with_len 1 (to - at.place)) ∙ some_in_range (λ words. test (spot at.place words)) 1 (to - at.place) at.words some (omega (arith, last)) h))
  ]

  pub spot_found : (from : ℕ) → list_any test (spots_between from to) ≡ true → IsThere test from to
  spot_found from h = rows_found from (to - from) h

  pub spot_there : (from : ℕ) → IsThere test from to → list_any test (spots_between from to) ≡ true
  spot_there from found =
      let some = found.some in
      let last = found.last in
      let first = found.first in
      rows_have from (to - from) found.at found.first (omega (arith, first, some, last)) found.some found.last found.holds

-- ---- the spots of a span

-- whether a spot has a word and lies in a span
abbrev pub lies_in : ℕ → ℕ → Spot → Bool
lies_in from to at = nat_le from at.place && (nat_le 1 at.words && nat_le (at.place + at.words) to)

pub lying : (from to : ℕ) (at : Spot) → lies_in from to at ≡ true → (from ≤ at.place) × ((1 ≤ at.words) × (at.place + at.words ≤ to))
lying from to at h =
    let first = and_parts (nat_le from at.place) (nat_le 1 at.words && nat_le (at.place + at.words) to) h in
    let rest = and_parts (nat_le 1 at.words) (nat_le (at.place + at.words) to) first.1 in
    (leb-true from at.place first.0, (leb-true 1 at.words rest.0, leb-true (at.place + at.words) to rest.1))

all_lie : (from to : ℕ) → list_all (lies_in from to) (spots_between from to) ≡ true
all_lie from to = by (list_all (lies_in from to) (spots_between from to)) refl
  where
    by : (b : Bool) → list_all (lies_in from to) (spots_between from to) ≡ b → b ≡ true
    by true is = refl
    by false is =
        let found = spot_found (λ at. not (lies_in from to at)) to from (any_not_all (lies_in from to) (spots_between from to) ∙ ap not is) in
        let first = found.first in
        let some = found.some in
        let last = found.last in
        let lies : lies_in from to found.at ≡ true =
        and_from (nat_le from found.at.place) (nat_le 1 found.at.words && nat_le (found.at.place + found.at.words) to) (le-leb from found.at.place first)
        (and_from (nat_le 1 found.at.words) (nat_le (found.at.place + found.at.words) to) (le-leb 1 found.at.words some) (le-leb (found.at.place + found.at.words) to last)) in
        absurd (true≢false (sym found.holds ∙ ap not lies))

-- those that a test keeps lie in it, too
pub kept_lie : (kept : Spot → Bool) (from to : ℕ) → list_all (lies_in from to) (filter kept (spots_between from to)) ≡ true
kept_lie kept from to = all_kept (spots_between from to) (all_lie from to)
  where
    all_kept : (spots : List Spot) → list_all (lies_in from to) spots ≡ true → list_all (lies_in from to) (filter kept spots) ≡ true
    all_kept [] h = refl
    all_kept (at ∷ spots) h =
        let parts = and_parts (lies_in from to at) (list_all (lies_in from to) spots) h in
        by (kept at) parts.0 (all_kept spots parts.1)
      where
        by : (b : Bool) → lies_in from to at ≡ true → list_all (lies_in from to) (filter kept spots) ≡ true
            → list_all (lies_in from to) (cond b (at ∷ filter kept spots) (filter kept spots)) ≡ true
        by true first rest = λ i. first i && rest i
        by false first rest = rest

-- ---- the spots of variants of one word

pub one_word_spots : (span : Span) (variants : List (List Wanted)) → list_all (λ variant. length variant == 1) variants ≡ true → list_all (λ at. at.words == 1) (spots_of span variants) ≡ true
one_word_spots span variants h = kept_pass (λ at. at.words == 1) (some_at span.to variants) (λ at. has_one at variants h) (spots_between span.from span.to)
  where
    has_one : (at : Spot) (variants : List (List Wanted)) → list_all (λ variant. length variant == 1) variants ≡ true → some_at span.to variants at ≡ true → (at.words == 1) ≡ true
    has_one at [] h is = absurd (true≢false (sym is))
    has_one at (variant ∷ variants) h is =
        let all = and_parts (length variant == 1) (list_all (λ other. length other == 1) variants) h in
        elim (or_cases ((length variant == at.words) && stands_before span.to at.place variant) (some_at span.to variants at) is) [
          | inl here ↦
              let words = (and_parts (length variant == at.words) (stands_before span.to at.place variant) here).0 in
              let one = all.0 in
              grind (arith, nat_tests, words, one)
          | inr there ↦ has_one at variants all.1 there
        ]
