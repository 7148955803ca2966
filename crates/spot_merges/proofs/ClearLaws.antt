-- `ftand ftnot` in a window, over hits of one word.
use Rattle.std.proofs.Common.{◌≡◌, refl, sym, ap, ◌∙◌, ℕ, zero, suc, ◌+◌, ◌-◌, Bool, true, false, cond, ◌&&◌, not, List, [], ◌∷◌, ◌++◌, map, filter, flat_map, append-nil, arith}
use Rattle.std.specs.Prelude.{pos, ◌-ℤ◌, nat_lt, Option, Some}
use Rattle.std.specs.List.{list_all, list_any, range_with_len}
use Rattle.std.proofs.Math.Bool.{or-false}
use Rattle.std.proofs.lemmas.Bool.{eqb-true}
use Rattle.std.proofs.lemmas.Bool.Decides.{nat_tests}
use Rattle.std.proofs.lemmas.Int.{ints}
use Rattle.std.proofs.lemmas.List.Folds.{list_all-map}
use Rattle.ft_base.specs.declared.filter.Filter.TheVariants as F
use Rattle.ft_base.specs.declared.hit.Hit.{Hit}
use Rattle.ft_base.specs.declared.hit.Match.{Match}
use Rattle.ft_base.specs.declared.span.Span.{Span}
use Rattle.ft_base.specs.declared.unit.TextUnit.TheVariants.{Words}
use Rattle.all_matches.specs.declared.window.Window.{Window}
use Rattle.all_matches.specs.Boolean.{both, ft_and, ft_not, is_clean, satisfied, with_exclude, with_include}
use Rattle.all_matches.specs.Filters.{after, filtered_match, keeps, through}
use Rattle.all_matches.specs.Hits.{match_of_hit}
use Rattle.all_matches.specs.Ways.{matches_of, negated, phrase, through_filter, together}
use Rattle.all_matches.specs.Window.{lies_in_window, window_at}
use Rattle.all_matches.proofs.ListTests.{list_any-alike, list_any-flat_map, list_any-map}
use Rattle.spot_merges.specs.Clear.{has_clear_window, lies_before, some_clear}
use Rattle.spot_merges.specs.Phrases.{is_one_word}
use Rattle.spot_merges.proofs.SpotTests.{all_on, any_on}

-- ---- what has none of some hits

abbrev excluding : List Hit → Match
excluding hits = record { includes = []; excludes = hits }

-- of Matches that include one hit each
none_of : (hits : List Hit) → ft_not (map match_of_hit hits) ≡ excluding hits ∷ []
none_of [] = refl
none_of (hit ∷ hits) = ap (λ ms. flat_map (λ one. map (with_exclude one) ms) (hit ∷ []) ++ flat_map (λ one. map (with_include one) ms) []) (none_of hits)

none_kept : (kept : Hit → Bool) (includes hits : List Hit) → is_clean (record { includes = includes; excludes = filter kept hits }) ≡ list_all (λ hit. not (kept hit)) hits
none_kept kept includes [] = refl
none_kept kept includes (hit ∷ hits) =
    elim (kept hit) as (λ b. is_clean (record { includes = includes; excludes = cond b (hit ∷ filter kept hits) (filter kept hits) }) ≡ (not b && list_all (λ one. not (kept one)) hits)) [
      | true ↦ refl
      | false ↦ none_kept kept includes hits
    ]

-- ---- windows

module _ (size : ℕ) where
  abbrev window_after : ℕ → Window
  window_after after = window_at size (pos after -ℤ pos size)

  -- a hit of one word lies in a window where its place does
  same_window : (after : ℕ) (hit : Hit) → is_one_word hit ≡ true → lies_in_window Words (window_after after) hit ≡ lies_before size after hit.from
  same_window after hit h =
      let one = eqb-true hit.to hit.from h in
      grind (arith, ints, nat_tests, one)

  no_others : (after : ℕ) (others : List Hit) → list_all is_one_word others ≡ true
      → list_all (λ hit. not (lies_in_window Words (window_after after) hit)) others ≡ list_all (λ other. not (lies_before size after other)) (map (λ (hit : Hit). hit.from) others)
  no_others after others h =
      all_on is_one_word (λ hit. not (lies_in_window Words (window_after after) hit)) (λ hit. not (lies_before size after hit.from)) (λ hit one. ap not (same_window after hit one)) others h
      ∙ sym (list_all-map (λ other. not (lies_before size after other)) (λ (hit : Hit). hit.from) others)

  -- a window that a test has is there
  some_or_none : (test : Option Window → Bool) (f : Option Window → Match) (windows : ℕ → Window) (count : ℕ) → ((choice : Option Window) → is_clean (f choice) ≡ test choice)
      → list_any is_clean (cond (nat_lt 0 count) (map f (map Some (map windows (range_with_len 0 count)))) []) ≡ list_any (λ n. test (Some (windows n))) (range_with_len 0 count)
  some_or_none test f windows zero same = refl
  some_or_none test f windows (suc count) same =
      let some : nat_lt 0 (suc count) ≡ true = grind (arith, nat_tests) in
      ap (λ b. list_any is_clean (cond b (map f (map Some (map windows (range_with_len 0 (suc count))))) [])) some
      ∙ list_any-map is_clean f (map Some (map windows (range_with_len 0 (suc count))))
      ∙ list_any-alike (λ choice. is_clean (f choice)) test (map Some (map windows (range_with_len 0 (suc count)))) same
      ∙ list_any-map test Some (map windows (range_with_len 0 (suc count)))
      ∙ list_any-map (λ window. test (Some window)) windows (range_with_len 0 (suc count))

  module _ (item : Span) (hit : Hit) (others : List Hit) (one : is_one_word hit ≡ true) (each : list_all is_one_word others ≡ true) where
    abbrev without_others : Match
    without_others = record { includes = hit ∷ []; excludes = others }

    abbrev windows : ℕ → Window
    windows n = window_after (suc hit.to + n)

    abbrev is_free : Option Window → Bool
    is_free choice = list_all (λ other. not (keeps (F.Window size Words) (hit ∷ []) choice other)) others

    through_window : list_any is_clean (filtered_match (F.Window size Words) item without_others) ≡ has_clear_window size (map (λ (other : Hit). other.from) others) hit.from
    through_window =
        let is = eqb-true hit.to hit.from one in
        let fits : nat_lt hit.to (hit.from + size) ≡ nat_lt 0 size = grind (arith, nat_tests, is) in
        let count : (hit.from + size) - hit.to ≡ size = omega (arith, is) in
        let kind = F.Window size Words in
        (λ i. list_any is_clean (cond (fits i) (map (through kind without_others) (map Some (map windows (range_with_len 0 (count i))))) []))
        ∙ some_or_none is_free (through kind without_others) windows size (λ choice. none_kept (keeps kind (hit ∷ []) choice) (after kind (hit ∷ [])) others)
        ∙ list_any-alike (λ n. is_free (Some (windows n))) (λ n. list_all (λ other. not (lies_before size (suc hit.from + n) other)) (map (λ (other : Hit). other.from) others)) (range_with_len 0 size)
        (λ n. no_others (suc hit.to + n) others each ∙ ap (λ place. list_all (λ other. not (lies_before size (suc place + n) other)) (map (λ (other : Hit). other.from) others)) is)

-- ---- phrases of one word

pub clear_law : (size : ℕ) (item : Span) (left right : List Hit) → list_all is_one_word left ≡ true → list_all is_one_word right ≡ true
    → satisfied (matches_of item (through_filter (together (phrase left) (negated (phrase right))) (F.Window size Words)))
    ≡ some_clear size (map (λ (hit : Hit). hit.from) left) (map (λ (hit : Hit). hit.from) right)
unfolding matches_of
clear_law size item left right first second =
    let cleaned = λ (m : Match). list_any is_clean (filtered_match (F.Window size Words) item m) in
    let none = ft_not (map match_of_hit right) in
    list_any-flat_map is_clean (filtered_match (F.Window size Words) item) (ft_and (map match_of_hit left) none)
    ∙ list_any-flat_map cleaned (λ a. map (both a) none) (map match_of_hit left)
    ∙ list_any-map (λ a. list_any cleaned (map (both a) none)) match_of_hit left
    ∙ ap (λ ms. list_any (λ hit. list_any cleaned (map (both (match_of_hit hit)) ms)) left) (none_of right)
    ∙ any_on is_one_word (λ hit. list_any cleaned (map (both (match_of_hit hit)) (excluding right ∷ []))) (λ hit. has_clear_window size (map (λ (other : Hit). other.from) right) hit.from)
    (λ hit one. or-false (cleaned (both (match_of_hit hit) (excluding right))) ∙ through_window size item hit right one second) left first
    ∙ sym (list_any-map (has_clear_window size (map (λ (other : Hit). other.from) right)) (λ (hit : Hit). hit.from) left)

-- ---- a phrase that is negated before another one

excluded_before : (hits others : List Hit) → ft_and (map match_of_hit hits) (excluding others ∷ []) ≡ map (both (excluding others)) (map match_of_hit hits)
excluded_before [] others = refl
excluded_before (hit ∷ hits) others = λ i. record { includes = hit ∷ []; excludes = sym (append-nil others) i } ∷ excluded_before hits others i

-- it has the Matches that it has after it
pub negated_first : (item : Span) (left right : List Hit) → matches_of item (together (negated (phrase right)) (phrase left)) ≡ matches_of item (together (phrase left) (negated (phrase right)))
unfolding matches_of
negated_first item left right =
    let hits = map match_of_hit left in
    ap (λ ms. ft_and ms hits) (none_of right)
    ∙ append-nil (map (both (excluding right)) hits)
    ∙ sym (excluded_before left right)
    ∙ sym (ap (ft_and hits) (none_of right))
