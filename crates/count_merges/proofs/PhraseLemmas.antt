-- Items fit where the phrases do whose groups they have.
use Rattle.std.proofs.Common.{◌≡◌, refl, sym, ap, ◌∙◌, ℕ, ◌+◌, Bool, true, ◌&&◌, List, [], ◌∷◌, map, filter, flat_map, length, get_or, drop, arith, length-append}
use Rattle.std.specs.Prelude.{Option, nat_le, nat_lt}
use Rattle.std.specs.List.{list_all, list_any, sum_by}
use Rattle.std.proofs.lemmas.List.Elements.{filter-append}
use Rattle.std.proofs.lemmas.List.Sums.{sum_by-append, sum_by-cons}
use Rattle.ft_base.specs.declared.hit.Hit.{Hit}
use Rattle.ft_base.specs.declared.span.Span.{Span}
use Rattle.ft_base.specs.declared.unit.TextUnit.{TextUnit}
use Rattle.ft_base.specs.Hits.{HitPlace}
use Rattle.ft_base.proofs.Truth.{same_tests}
use Rattle.all_matches.specs.Counting.{by_length}
use Rattle.all_matches.proofs.ListTests.{list_any-map}
use Rattle.counted_shapes.specs.Fields.{in_unit, in_window}
use Rattle.counted_shapes.specs.Shapes.{fit_in_unit, fit_in_window, has_enough, is_at_most}
use Rattle.counted_shapes.proofs.CountedLemmas.{some-unit, some-window}
use Rattle.place_merges.specs.Places.{Wanted}
use Rattle.place_merges.specs.Sources.{wanted_words}
use Rattle.spot_merges.specs.Edges.{spots_of}
use Rattle.count_merges.specs.declared.item.CountedItem.{CountedItem}
use Rattle.count_merges.specs.declared.item.VariantGroup.{VariantGroup}
use Rattle.count_merges.specs.Groups.{AskedPhrases, all_counted, asked_parts, counted, group_spots, item_parts, phrases_counted, told_hit}
use Rattle.count_merges.proofs.FitLemmas.{count_cons}
use Rattle.count_merges.proofs.GroupLemmas.{groups_once}

count_map : {X Y : Type 0} (test : Y → Bool) (f : X → Y) (xs : List X) → length (filter test (map f xs)) ≡ length (filter (λ x. test (f x)) xs)
count_map test f [] = refl
count_map test f (x ∷ xs) =
    let one = count_cons test (f x) (map f xs) in
    let other = count_cons (λ y. test (f y)) x xs in
    let rest = count_map test f xs in
    omega (arith, one, other, rest)

module _ (unit : ℕ → ℕ) (span : Span) (field : Hit → Bool) where
  -- how many of the hits of a group lie in a field
  abbrev pub much : ℕ × List (List Wanted) → ℕ
  much group = length (filter (λ at. field (told_hit unit at)) (group_spots span group.0 group.1))

  pub groups_much : {A : Type 0} (group_of : A → ℕ × List (List Wanted)) (xs : List A)
      → length (filter field (flat_map (λ x. map (told_hit unit) (group_spots span (group_of x).0 (group_of x).1)) xs)) ≡ sum_by much (map group_of xs)
  groups_much group_of [] = refl
  groups_much group_of (x ∷ xs) =
      let here = map (told_hit unit) (group_spots span (group_of x).0 (group_of x).1) in
      let later = flat_map (λ y. map (told_hit unit) (group_spots span (group_of y).0 (group_of y).1)) xs in
      ap length (filter-append field here later)
      ∙ length-append (filter field here) (filter field later)
      ∙ (λ i. count_map field (told_hit unit) (group_spots span (group_of x).0 (group_of x).1) i + groups_much group_of xs i)
      ∙ sym (sum_by-cons much (group_of x) (map group_of xs))

  pub phrases_much : (phrases : List (List (List Wanted)))
      → length (filter field (flat_map (λ variants. map (told_hit unit) (spots_of span variants)) phrases)) ≡ sum_by much (flat_map by_length phrases)
  phrases_much [] = refl
  phrases_much (variants ∷ rest) =
      let here = map (told_hit unit) (spots_of span variants) in
      let later = flat_map (λ other. map (told_hit unit) (spots_of span other)) rest in
      ap length (filter-append field here later)
      ∙ length-append (filter field here) (filter field later)
      ∙ (λ i. (count_map field (told_hit unit) (spots_of span variants) ∙ sym (groups_once (λ at. field (told_hit unit at)) span variants)) i + phrases_much rest i)
      ∙ sym (sum_by-append much (by_length variants) (flat_map by_length rest))

  module _ {H : Type 0} (stand : H → HitPlace) where
    alike : (items : List (CountedItem H)) (asked : List AskedPhrases) → map (item_parts stand) items ≡ map asked_parts asked
        → list_all (has_enough field) (all_counted stand unit span items) ≡ list_all (has_enough field) (map (phrases_counted unit span) asked)
    alike [] [] same = refl
    alike [] (one ∷ others) same = cc
    alike (item ∷ items) [] same = cc
    alike (item ∷ items) (one ∷ others) same =
        let first : item_parts stand item ≡ asked_parts one = ap (λ parts. get_or parts 0 (item_parts stand item)) same in
        let count = groups_much (λ (group : VariantGroup H). (group.words, wanted_words stand group.front.items)) item.groups.items
        ∙ ap (λ (parts : ℕ × Option ℕ × List (ℕ × List (List Wanted))). sum_by much parts.2) first
        ∙ sym (phrases_much one.phrases) in
        λ i. (nat_le (first i).0 (count i) && is_at_most (first i).1 (count i)) && alike items others (ap (drop 1) same) i

module _ {H : Type 0} (stand : H → HitPlace) (unit : ℕ → ℕ) (span : Span) (items : List (CountedItem H)) (asked : List AskedPhrases)
    (same : map (item_parts stand) items ≡ map asked_parts asked) (one_asks : list_any (λ item. nat_lt 0 item.least) items ≡ true) where
  items_ask : list_any (λ item. nat_lt 0 item.least) (all_counted stand unit span items) ≡ true
  items_ask = list_any-map (λ item. nat_lt 0 item.least) (counted stand unit span) items ∙ one_asks

  phrases_ask : list_any (λ item. nat_lt 0 item.least) (map (phrases_counted unit span) asked) ≡ true
  phrases_ask =
      let test = λ (parts : ℕ × Option ℕ × List (ℕ × List (List Wanted))). nat_lt 0 parts.0 in
      list_any-map (λ item. nat_lt 0 item.least) (phrases_counted unit span) asked
      ∙ sym (list_any-map test asked_parts asked)
      ∙ ap (list_any test) (sym same)
      ∙ list_any-map test (item_parts stand) items
      ∙ one_asks

  pub phrases_window : (size : ℕ) (kind : TextUnit) → fit_in_window size kind (all_counted stand unit span items) ≡ fit_in_window size kind (map (phrases_counted unit span) asked)
  phrases_window size kind =
      same_tests (fit_in_window size kind (all_counted stand unit span items)) (fit_in_window size kind (map (phrases_counted unit span) asked))
      (λ fits. let one = (some-window size kind (all_counted stand unit span items) items_ask).0 fits in
      (some-window size kind (map (phrases_counted unit span) asked) phrases_ask).1 (one.0, sym (alike unit span (in_window size kind one.0) stand items asked same) ∙ one.1))
      (λ fits. let one = (some-window size kind (map (phrases_counted unit span) asked) phrases_ask).0 fits in
      (some-window size kind (all_counted stand unit span items) items_ask).1 (one.0, alike unit span (in_window size kind one.0) stand items asked same ∙ one.1))

  pub phrases_unit : (kind : TextUnit) → fit_in_unit kind (all_counted stand unit span items) ≡ fit_in_unit kind (map (phrases_counted unit span) asked)
  phrases_unit kind =
      same_tests (fit_in_unit kind (all_counted stand unit span items)) (fit_in_unit kind (map (phrases_counted unit span) asked))
      (λ fits. let one = (some-unit kind (all_counted stand unit span items) items_ask).0 fits in
      (some-unit kind (map (phrases_counted unit span) asked) phrases_ask).1 (one.0, sym (alike unit span (in_unit kind one.0) stand items asked same) ∙ one.1))
      (λ fits. let one = (some-unit kind (map (phrases_counted unit span) asked) phrases_ask).0 fits in
      (some-unit kind (all_counted stand unit span items) items_ask).1 (one.0, alike unit span (in_unit kind one.0) stand items asked same ∙ one.1))
