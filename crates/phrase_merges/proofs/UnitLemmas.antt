-- What filters ask of the hits that are chosen: one sentence or paragraph is a window of one.
use Rattle.std.proofs.Common.{◌≡◌, refl, sym, ◌∙◌, ℕ, ◌+◌, ◌≤◌, Bool, true, ◌&&◌, eqb, List, [], ◌∷◌, map, length, le_refl, arith}
use Rattle.std.specs.Prelude.{nat_le, nat_lt}
use Rattle.std.specs.List.{list_all}
use Rattle.std.proofs.lemmas.Bool.{and_from, and_parts, eqb-true, eq-eqb, le-leb, leb-true, lt-ltb, ltb-true}
use Rattle.all_matches.specs.Boolean.{satisfied}
use Rattle.all_matches.specs.Filters.{all_in_one}
use Rattle.all_matches.specs.Join.{greatest, least}
use Rattle.all_matches.specs.Positions.{end_in, share_one, start_in}
use Rattle.all_matches.specs.Ways.{matches_of}
use Rattle.ft_base.specs.declared.filter.Filter.TheVariants as F
use Rattle.ft_base.specs.declared.hit.Hit.{Hit}
use Rattle.ft_base.specs.declared.span.Span.{Span}
use Rattle.ft_base.specs.declared.unit.TextUnit.{TextUnit}
use Rattle.ft_base.proofs.Truth.{same_tests}
use Rattle.window_merges.specs.Choices.{are_in_order, some_choice}
use Rattle.window_merges.specs.Words.{are_numbered, filtered_words}
use Rattle.window_merges.proofs.ChoiceLemmas.{least_first}
use Rattle.window_merges.proofs.ChoiceTests.{choice_map}
use Rattle.window_merges.proofs.FilterLemmas.{ordered_choices}
use Rattle.phrase_merges.specs.Choices.{begin_in_order, ends_after}
use Rattle.phrase_merges.proofs.AheadLemmas.{latest}
use Rattle.phrase_merges.proofs.ChoiceLemmas.{all_both, all_with}
use Rattle.phrase_merges.proofs.WithinLemmas.{all_from_least, are_within, begins_from, found_within, greatest_is, within_is}

latest_to : (number : Hit → ℕ) (far : ℕ) (hits : List Hit) → list_all (λ hit. nat_le (number hit) far) hits ≡ true → latest number hits ≤ far
latest_to number far [] h = omega arith
latest_to number far (hit ∷ hits) h =
    let parts = and_parts (nat_le (number hit) far) (list_all (λ other. nat_le (number other) far) hits) h in
    let own = leb-true (number hit) far parts.0 in
    let rest = latest_to number far hits parts.1 in
    omega (arith, own, rest)

all_latest : (number : Hit → ℕ) (far : ℕ) (hits : List Hit) → latest number hits ≤ far → list_all (λ hit. nat_le (number hit) far) hits ≡ true
all_latest number far [] h = refl
all_latest number far (hit ∷ hits) h =
    and_from (nat_le (number hit) far) (list_all (λ other. nat_le (number other) far) hits) (le-leb (number hit) far (omega (arith, h))) (all_latest number far hits (omega (arith, h)))

module _ (unit : TextUnit) where
  abbrev at_place : ℕ → Hit → Bool
  at_place place hit = eqb (start_in unit hit) place && eqb (end_in unit hit) place

  -- what shares a unit with a hit lies where the hit does
  shared : (a b : Hit) → share_one unit a b ≡ true → at_place (start_in unit a) b ≡ true
  shared a b h =
      let parts = and_parts (eqb (start_in unit a) (end_in unit a) && eqb (start_in unit b) (end_in unit b)) (eqb (start_in unit a) (start_in unit b)) h in
      let others = and_parts (eqb (start_in unit a) (end_in unit a)) (eqb (start_in unit b) (end_in unit b)) parts.0 in
      let own = eqb-true (start_in unit b) (end_in unit b) others.1 in
      let same = eqb-true (start_in unit a) (start_in unit b) parts.1 in
      and_from (eqb (start_in unit b) (start_in unit a)) (eqb (end_in unit b) (start_in unit a))
      (eq-eqb (start_in unit b) (start_in unit a) (sym same)) (eq-eqb (end_in unit b) (start_in unit a) (sym own ∙ sym same))

  at_one : (place : ℕ) (a b : Hit) → at_place place a ≡ true → at_place place b ≡ true → share_one unit a b ≡ true
  at_one place a b h k =
      let first = and_parts (eqb (start_in unit a) place) (eqb (end_in unit a) place) h in
      let second = and_parts (eqb (start_in unit b) place) (eqb (end_in unit b) place) k in
      let a_start = eqb-true (start_in unit a) place first.0 in
      let a_end = eqb-true (end_in unit a) place first.1 in
      let b_start = eqb-true (start_in unit b) place second.0 in
      let b_end = eqb-true (end_in unit b) place second.1 in
      and_from (eqb (start_in unit a) (end_in unit a) && eqb (start_in unit b) (end_in unit b)) (eqb (start_in unit a) (start_in unit b))
      (and_from (eqb (start_in unit a) (end_in unit a)) (eqb (start_in unit b) (end_in unit b))
      (eq-eqb (start_in unit a) (end_in unit a) (a_start ∙ sym a_end)) (eq-eqb (start_in unit b) (end_in unit b) (b_start ∙ sym b_end)))
      (eq-eqb (start_in unit a) (start_in unit b) (a_start ∙ sym b_start))

  placed : (place : ℕ) (other : Hit) → ends_after unit other ≡ true → (begins_from unit place other && nat_le (end_in unit other) place) ≡ true → at_place place other ≡ true
  placed place other e k =
      let parts = and_parts (begins_from unit place other) (nat_le (end_in unit other) place) k in
      let from = leb-true place (start_in unit other) parts.0 in
      let to = leb-true (end_in unit other) place parts.1 in
      let order = leb-true (start_in unit other) (end_in unit other) e in
      and_from (eqb (start_in unit other) place) (eqb (end_in unit other) place)
      (eq-eqb (start_in unit other) place (omega (arith, from, to, order))) (eq-eqb (end_in unit other) place (omega (arith, from, to, order)))

  pub one_window : (hit : Hit) (hits : List Hit) → list_all (ends_after unit) (hit ∷ hits) ≡ true → all_in_one unit (hit ∷ hits) ≡ are_within 1 unit (hit ∷ hits)
  one_window hit hits well = same_tests (all_in_one unit chosen) (are_within 1 unit chosen) to back
    where
      chosen : List Hit
      chosen = hit ∷ hits

      to : all_in_one unit chosen ≡ true → are_within 1 unit chosen ≡ true
      to h =
          let place = start_in unit hit in
          let first = (and_parts (list_all (share_one unit hit) chosen) (list_all (λ a. list_all (share_one unit a) chosen) hits) h).0 in
          let there = all_with (share_one unit hit) (at_place place) chosen (shared hit) first in
          let starts = all_with (at_place place) (begins_from unit place) chosen
          (λ other e. let is = eqb-true (start_in unit other) place (and_parts (eqb (start_in unit other) place) (eqb (end_in unit other) place) e).0 in
          le-leb place (start_in unit other) (omega (arith, is))) there in
          let ends = all_with (at_place place) (λ other. nat_le (end_in unit other) place) chosen
          (λ other e. let is = eqb-true (end_in unit other) place (and_parts (eqb (start_in unit other) place) (eqb (end_in unit other) place) e).1 in
          le-leb (end_in unit other) place (omega (arith, is))) there in
          found_within 1 unit place place chosen (omega arith)
          (and_from (list_all (begins_from unit place) chosen) (nat_lt 0 (length chosen)) starts (lt-ltb 0 (length chosen) (omega arith)))
          (le-leb (latest (λ other. end_in unit other) chosen) place (latest_to (λ other. end_in unit other) place chosen ends))

      back : are_within 1 unit chosen ≡ true → all_in_one unit chosen ≡ true
      back h =
          let place = least (start_in unit hit) (map (λ other. start_in unit other) hits) in
          let last = greatest_is (λ other. end_in unit other) (end_in unit hit) hits in
          let fits = ltb-true (greatest (end_in unit hit) (map (λ other. end_in unit other) hits)) (place + 1) (sym (within_is 1 unit hit hits) ∙ h) in
          let own = least_first (start_in unit hit) (map (λ other. start_in unit other) hits) in
          let starts : list_all (begins_from unit place) chosen ≡ true =
          and_from (begins_from unit place hit) (list_all (begins_from unit place) hits) (le-leb place (start_in unit hit) own)
          (all_from_least (λ other. start_in unit other) place (start_in unit hit) hits (le_refl place)) in
          let ends = all_latest (λ other. end_in unit other) place chosen (omega (arith, last, fits)) in
          let both = all_both (begins_from unit place) (λ other. nat_le (end_in unit other) place) (λ other. begins_from unit place other && nat_le (end_in unit other) place) chosen
          (λ other a b. and_from (begins_from unit place other) (nat_le (end_in unit other) place) a b) starts ends in
          let there : list_all (at_place place) chosen ≡ true =
          all_both (ends_after unit) (λ other. begins_from unit place other && nat_le (end_in unit other) place) (at_place place) chosen (λ other e k. placed place other e k) well both in
          all_with (at_place place) (λ a. list_all (share_one unit a) chosen) chosen (λ a e. all_with (at_place place) (share_one unit a) chosen (λ b k. at_one place a b e k) there) there

pub ordered : (number : ℕ) (item : Span) (hits : List Hit) (phrases : List (List Hit)) → are_numbered number (hits ∷ phrases) ≡ true
    → satisfied (matches_of item (filtered_words F.Ordered (hits ∷ phrases))) ≡ some_choice begin_in_order (hits ∷ phrases)
ordered number item hits phrases numbered = ordered_choices number item hits phrases numbered ∙ sym (choice_map (λ hit. hit.from) are_in_order (hits ∷ phrases))
