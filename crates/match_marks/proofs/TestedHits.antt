-- The hits of a phrase all variants of which have as many words rise.
use Rattle.std.proofs.Common.{◌≡◌, refl, sym, ap, ◌∙◌, ℕ, zero, suc, ◌+◌, ◌-◌, ◌==◌, ◌<◌, ◌≤◌, min, Bool, true, false, true≢false, ◌&&◌, ◌||◌, cond, List, [], ◌∷◌, ◌++◌, map, filter, flat_map, take, drop, length, arith, inl, inr}
use Rattle.std.specs.Prelude.{nat_le}
use Rattle.std.specs.List.{list_all, list_any, range_with_len}
use Rattle.std.proofs.lemmas.Bool.{and_from, and_parts, cases_Bool, eqb-true, eq-eqb, le-leb, leb-true, or_cases}
use Rattle.std.proofs.lemmas.List.{length-drop, length-map, length-take}
use Rattle.std.proofs.lemmas.List.Elements.{filter-append}
use Rattle.ft_base.specs.declared.hit.Hit.{Hit}
use Rattle.ft_base.specs.declared.token.Token.{Token}
use Rattle.ft_base.specs.declared.unit.TextUnit.TheVariants.{Words}
use Rattle.all_matches.specs.Counting.{begins_as}
use Rattle.all_matches.specs.Hits.{Interval, hit_on, intervals, tokens_in}
use Rattle.phrase_merges.specs.Rows.{goes_on_in}
use Rattle.plan_compiler.specs.ItemTests.{passes}
use Rattle.plan_compiler.specs.Operators.{LookedText, hits_by_tests, stand_on, words_on}
use Rattle.plan_compiler.specs.TextWords.{word_as}
use Rattle.plan_compiler.specs.declared.item_matching.ItemTest.{ItemTest}
use Rattle.match_marks.specs.steps.WindowRuns.{have_one_length, is_rising}

-- intervals of so many words, none of which begins before an earlier one, nor before a place
abbrev are_even : ℕ → ℕ → List Interval → Bool
are_even words place [] = true
are_even words place (at ∷ rest) = (suc at.to == at.from + words) && (nat_le place at.from && are_even words at.from rest)

even_parts : (words place : ℕ) (at : Interval) (rest : List Interval) → are_even words place (at ∷ rest) ≡ true
    → (suc at.to ≡ at.from + words) × ((place ≤ at.from) × (are_even words at.from rest ≡ true))
even_parts words place at rest h =
    let first = and_parts (suc at.to == at.from + words) (nat_le place at.from && are_even words at.from rest) h in
    let then = and_parts (nat_le place at.from) (are_even words at.from rest) first.1 in
    (eqb-true (suc at.to) (at.from + words) first.0, (leb-true place at.from then.0, then.1))

from_even : (words place : ℕ) (at : Interval) (rest : List Interval) → suc at.to ≡ at.from + words → place ≤ at.from → are_even words at.from rest ≡ true → are_even words place (at ∷ rest) ≡ true
from_even words place at rest is le h =
    and_from (suc at.to == at.from + words) (nat_le place at.from && are_even words at.from rest) (eq-eqb (suc at.to) (at.from + words) is)
    (and_from (nat_le place at.from) (are_even words at.from rest) (le-leb place at.from le) h)

earlier_even : (words place later : ℕ) (list : List Interval) → place ≤ later → are_even words later list ≡ true → are_even words place list ≡ true
earlier_even words place later [] le h = refl
earlier_even words place later (at ∷ rest) le h = let parts = even_parts words later at rest h in from_even words place at rest parts.0 (omega (arith, le, parts.1.0)) parts.1.1

module _ (tokens : List Token) (number : ℕ) where
  abbrev hit_at : Interval → Hit
  hit_at at = hit_on tokens number at

  after_one : (words place : ℕ) (first : Interval) (list : List Interval) → suc first.to ≡ first.from + words → first.from ≤ place → are_even words place list ≡ true
      → list_all (goes_on_in Words (hit_at first)) (map hit_at list) ≡ true
  after_one words place first [] is le h = refl
  after_one words place first (at ∷ rest) is le h =
      let parts = even_parts words place at rest h in
      let more : first.from ≤ at.from = omega (arith, le, parts.1.0) in
      and_from (goes_on_in Words (hit_at first) (hit_at at)) (list_all (goes_on_in Words (hit_at first)) (map hit_at rest))
      (and_from (nat_le first.from at.from) (nat_le first.to at.to) (le-leb first.from at.from more) (le-leb first.to at.to (omega (arith, more, is, parts.0))))
      (after_one words at.from first rest is more parts.1.1)

  even_rises : (words place : ℕ) (list : List Interval) → are_even words place list ≡ true → is_rising (map hit_at list) ≡ true
  even_rises words place [] h = refl
  even_rises words place (at ∷ rest) h =
      let parts = even_parts words place at rest h in
      and_from (list_all (goes_on_in Words (hit_at at)) (map hit_at rest)) (is_rising (map hit_at rest)) (after_one words at.from at rest parts.0 (omega arith) parts.1.1)
      (even_rises words at.from rest parts.1.1)

abbrev interval : ℕ → ℕ → Interval
interval from to = record { from = from; to = to }

-- a test of intervals that those of other than so many words fail, up to a place
module _ (p : Interval → Bool) (words last : ℕ) (long : (from to : ℕ) → 1 ≤ from → from ≤ to → to ≤ last → p (interval from to) ≡ true → suc to ≡ from + words) where
  at_place : (place from to count : ℕ) (after : List Interval) → 1 ≤ from → place ≤ from → from ≤ to → to + count ≤ suc last → are_even words from after ≡ true
      → are_even words place (filter p (map (interval from) (range_with_len to count)) ++ after) ≡ true
  at_place place from to zero after one le up within h = earlier_even words place from after le h
  at_place place from to (suc count) after one le up within h = elim (cases_Bool (p (interval from to))) [
    | inl holds ↦
        ap (λ b. are_even words place (cond b (interval from to ∷ filter p (map (interval from) (range_with_len (to + 1) count))) (filter p (map (interval from) (range_with_len (to + 1) count))) ++ after)) holds
        ∙ from_even words place (interval from to) (filter p (map (interval from) (range_with_len (to + 1) count)) ++ after) (long from to one up (omega (arith, within)) holds) le
        (at_place from from (to + 1) count after one (omega arith) (omega (arith, up)) (omega (arith, within)) h)
    | inr fails ↦
        ap (λ b. are_even words place (cond b (interval from to ∷ filter p (map (interval from) (range_with_len (to + 1) count))) (filter p (map (interval from) (range_with_len (to + 1) count))) ++ after)) fails
        ∙ at_place place from (to + 1) count after one le (omega (arith, up)) (omega (arith, within)) h
  ]

  abbrev from_place : ℕ → List Interval
  from_place from = map (interval from) (range_with_len from (suc last - from))

  all_places : (from count : ℕ) → 1 ≤ from → from + count ≤ suc last → are_even words from (filter p (flat_map from_place (range_with_len from count))) ≡ true
  all_places from zero one within = refl
  all_places from (suc count) one within =
      ap (are_even words from) (filter-append p (from_place from) (flat_map from_place (range_with_len (from + 1) count)))
      ∙ at_place from from from (suc last - from) (filter p (flat_map from_place (range_with_len (from + 1) count))) one (omega arith) (omega arith) (omega (arith, within))
      (earlier_even words from (from + 1) (filter p (flat_map from_place (range_with_len (from + 1) count))) (omega arith) (all_places (from + 1) count (omega arith) (omega (arith, within))))

-- as many words as the tests that stand on them
any_length : (words count : ℕ) (test : List ItemTest → Bool) (variants : List (List ItemTest)) → list_all (λ tests. length tests == words) variants ≡ true
    → list_any (λ tests. (length tests == count) && test tests) variants ≡ true → count ≡ words
any_length words count test [] all some = absurd (true≢false (sym some))
any_length words count test (tests ∷ variants) all some =
    let parts = and_parts (length tests == words) (list_all (λ other. length other == words) variants) all in
    elim (or_cases ((length tests == count) && test tests) (list_any (λ other. (length other == count) && test other) variants) some) [
      | inl one ↦ sym (eqb-true (length tests) count (and_parts (length tests == count) (test tests) one).0) ∙ eqb-true (length tests) words parts.0
      | inr rest ↦ any_length words count test variants parts.1 rest
    ]

module _ (text : LookedText) where
  count_on : (from to : ℕ) → 1 ≤ from → from ≤ to → to ≤ length text.tokens → length (words_on text (interval from to)) ≡ suc to - from
  count_on from to one up within =
      let short = length-drop (from - 1) text.tokens in
      let is = length-take (suc to - from) (drop (from - 1) text.tokens) in
      length-map (tokens_in text.tokens (interval from to)) (λ (token : Token). word_as text.looks text.stems token.word) ∙ omega (arith, short, is, one, up, within)

  rising_by : (words number : ℕ) (variants : List (List ItemTest)) → list_all (λ tests. length tests == words) variants ≡ true → is_rising (hits_by_tests text number variants) ≡ true
  rising_by words number variants all =
      even_rises text.tokens number words 1 (filter (λ at. list_any (λ tests. stand_on tests (words_on text at)) variants) (intervals (length text.tokens)))
      (all_places (λ at. list_any (λ tests. stand_on tests (words_on text at)) variants) words (length text.tokens)
      (λ from to one up within there.
      let is = any_length words (length (words_on text (interval from to))) (λ tests. begins_as passes tests (words_on text (interval from to))) variants all there in
      let count = count_on from to one up within in
      omega (arith, is, count, up))
      1 (length text.tokens) (omega arith) (omega arith))

  pub tested_rise : (number : ℕ) (variants : List (List ItemTest)) → have_one_length variants ≡ true → is_rising (hits_by_tests text number variants) ≡ true
  tested_rise number [] h = rising_by 0 number [] refl
  tested_rise number (first ∷ rest) h = rising_by (length first) number (first ∷ rest) h
