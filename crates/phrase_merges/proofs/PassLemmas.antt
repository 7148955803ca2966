-- Passes: what is left of the choices after the farthest of the numbers that each phrase has.
use Rattle.std.proofs.Common.{◌≡◌, refl, sym, ap, ◌∙◌, ℕ, ◌<◌, ◌≤◌, Bool, true, ◌&&◌, List, [], ◌∷◌, map, length, Some, arith}
use Rattle.std.specs.Prelude.{nat_le, nat_lt}
use Rattle.std.specs.List.{list_all}
use Rattle.std.proofs.lemmas.Bool.{and_from, and_parts}
use Rattle.std.proofs.lemmas.List.{length-map}
use Rattle.ft_base.specs.declared.hit.Hit.{Hit}
use Rattle.ft_base.specs.declared.unit.TextUnit.{TextUnit}
use Rattle.ft_base.proofs.Truth.{same_tests}
use Rattle.window_merges.specs.Choices.{some_choice}
use Rattle.phrase_merges.specs.declared.edge.Edge.{Edge}
use Rattle.phrase_merges.specs.steps.Ahead.{from_on, number_at}
use Rattle.phrase_merges.proofs.AheadLemmas.{each_reaches, farthest_in, from_again, latest, some_short}
use Rattle.phrase_merges.proofs.ChoiceLemmas.{all_filter, choice_filter, choice_with, each_all, each_both, each_there}

module _ (by : Edge) (unit : TextUnit) (number : Hit → ℕ) (test : List Hit → Bool) where
  abbrev pub is_from : ℕ → Hit → Bool
  is_from place hit = nat_le place (number_at by unit hit)

  all_left : (low : ℕ) (lists : List (List Hit)) → list_all (list_all (is_from low)) (map (from_on by unit low) lists) ≡ true
  all_left low [] = refl
  all_left low (hits ∷ lists) =
      and_from (list_all (is_from low) (from_on by unit low hits)) (list_all (list_all (is_from low)) (map (from_on by unit low) lists)) (all_filter (is_from low) hits) (all_left low lists)

  left_again : (low later : ℕ) (lists : List (List Hit)) → low ≤ later → map (from_on by unit later) (map (from_on by unit low) lists) ≡ map (from_on by unit later) lists
  left_again low later [] h = refl
  left_again low later (hits ∷ lists) h = λ i. from_again by unit low later h hits i ∷ left_again low later lists h i

  -- where the hits that reach no farther pass the test, some choice does
  pub pass_found : (low far : ℕ) (lists : List (List Hit)) → 0 < length lists → farthest_in number (map (from_on by unit low) lists) ≡ Some far
      → ((chosen : List Hit) → (list_all (is_from low) chosen && nat_lt 0 (length chosen)) ≡ true → nat_le (latest number chosen) far ≡ true → test chosen ≡ true)
      → some_choice test (map (from_on by unit low) lists) ≡ true
  pass_found low far lists some is found =
      let left = map (from_on by unit low) lists in
      let many = length-map lists (from_on by unit low) in
      choice_with (λ chosen. list_all (is_from low) chosen && nat_lt 0 (length chosen)) (λ chosen. nat_le (latest number chosen) far) test left
      (each_both (list_all (is_from low)) (λ chosen. nat_lt 0 (length chosen)) left (each_all (is_from low) left (all_left low lists)) (each_there left (omega (arith, some, many))))
      found (some_short number left far is)

  -- where the hits that reach as far pass the test only from a later place on, only the hits from there on are left
  pub pass_moves : (low later far : ℕ) (lists : List (List Hit)) → farthest_in number (map (from_on by unit low) lists) ≡ Some far → low ≤ later
      → ((chosen : List Hit) → nat_le far (latest number chosen) ≡ true → test chosen ≡ true → list_all (is_from later) chosen ≡ true)
      → some_choice test (map (from_on by unit later) lists) ≡ some_choice test (map (from_on by unit low) lists)
  pass_moves low later far lists is order rule =
      let left = map (from_on by unit low) lists in
      let reaches = each_reaches number left far is in
      ap (some_choice test) (sym (left_again low later lists order))
      ∙ choice_filter test (is_from later) left
      ∙ same_tests (some_choice (λ chosen. list_all (is_from later) chosen && test chosen) left) (some_choice test left)
      (choice_with (λ chosen. nat_le far (latest number chosen)) (λ chosen. list_all (is_from later) chosen && test chosen) test left reaches
      (λ chosen reach both. (and_parts (list_all (is_from later) chosen) (test chosen) both).1))
      (choice_with (λ chosen. nat_le far (latest number chosen)) test (λ chosen. list_all (is_from later) chosen && test chosen) left reaches
      (λ chosen reach passes. and_from (list_all (is_from later) chosen) (test chosen) (rule chosen reach passes) passes))
