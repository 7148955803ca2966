-- Windows between two events, and windows of one sentence or paragraph.
use Rattle.std.proofs.Common.{◌≡◌, sym, ◌∙◌, ℕ, ◌+◌, ◌-◌, ◌≤◌, Bool, true, false, ◌&&◌, ◌||◌, List, [], ◌∷◌, refl, length, arith}
use Rattle.std.specs.Prelude.{cond, filter, nat_le, nat_lt}
use Rattle.std.specs.List.{list_all, list_any}
use Rattle.std.proofs.lemmas.Bool.{and_parts, le-leb, or_parts}
use Rattle.std.proofs.lemmas.Bool.Decides.{nat_tests}
use Rattle.std.proofs.lemmas.List.Folds.{list_all-append}
use Rattle.ft_base.specs.declared.hit.Hit.{Hit}
use Rattle.ft_base.specs.declared.span.Span.{Span}
use Rattle.ft_base.specs.declared.unit.TextUnit.{TextUnit}
use Rattle.ft_base.specs.Hits.{HitPlace}
use Rattle.ft_base.proofs.Truth.{same_tests}
use Rattle.all_matches.specs.Positions.{end_in, start_in}
use Rattle.all_matches.proofs.ListTests.{list_any-map}
use Rattle.counted_shapes.specs.Fields.{in_unit, in_window}
use Rattle.counted_shapes.specs.Shapes.{Counted, all_hits, events, fit_in_unit, fit_in_window, has_enough, is_at_most}
use Rattle.counted_shapes.proofs.CountedLemmas.{some-unit, some-window}
use Rattle.counted_shapes.proofs.ToldLemmas.{lies-unit}
use Rattle.count_merges.specs.declared.item.CountedItem.{CountedItem}
use Rattle.count_merges.specs.Groups.{all_counted, counted}
use Rattle.count_merges.proofs.FitLemmas.{end_is, hits_pass, start_is}

-- ---- between two events

quiet_hit : (size low high s e : ℕ) → low ≤ high → (nat_lt low e && nat_le e high) ≡ false → (nat_lt low (s + size) && nat_le (s + size) high) ≡ false
    → (nat_le e high && nat_lt high (s + size)) ≡ (nat_le e low && nat_lt low (s + size))
quiet_hit size low high s e order comes goes = grind (arith, nat_tests, order, comes, goes)

pub quiet_between : (size : ℕ) (kind : TextUnit) (low high : ℕ) (hits : List Hit) → low ≤ high
    → list_any (λ n. nat_lt low n && nat_le n high) (events size kind hits) ≡ false
    → filter (in_window size kind high) hits ≡ filter (in_window size kind low) hits
quiet_between size kind low high [] order h = refl
quiet_between size kind low high (hit ∷ rest) order h =
    let test = λ (n : ℕ). nat_lt low n && nat_le n high in
    let first = or_parts (test (end_in kind hit)) (test (start_in kind hit + size) || list_any test (events size kind rest)) h in
    let second = or_parts (test (start_in kind hit + size)) (list_any test (events size kind rest)) first.1 in
    λ i. cond (quiet_hit size low high (start_in kind hit) (end_in kind hit) order first.0 second.0 i)
    (hit ∷ quiet_between size kind low high rest order second.1 i) (quiet_between size kind low high rest order second.1 i)

-- ---- one sentence or paragraph

module _ (kind : TextUnit) where
  abbrev in_order : Hit → Bool
  in_order hit = nat_le (start_in kind hit) (end_in kind hit)

  hits_alike : (n : ℕ) (hits : List Hit) → list_all in_order hits ≡ true → filter (in_unit kind n) hits ≡ filter (in_window 1 kind n) hits
  hits_alike n [] h = refl
  hits_alike n (hit ∷ rest) h =
      let parts = and_parts (in_order hit) (list_all in_order rest) h in
      λ i. cond (lies-unit kind n hit parts.0 i) (hit ∷ hits_alike n rest parts.1 i) (hits_alike n rest parts.1 i)

  items_alike : (n : ℕ) (items : List Counted) → list_all in_order (all_hits items) ≡ true
      → list_all (has_enough (in_unit kind n)) items ≡ list_all (has_enough (in_window 1 kind n)) items
  items_alike n [] h = refl
  items_alike n (item ∷ rest) h =
      let parts = and_parts (list_all in_order item.hits) (list_all in_order (all_hits rest)) (sym (list_all-append in_order item.hits (all_hits rest)) ∙ h) in
      let same = hits_alike n item.hits parts.0 in
      λ i. (nat_le item.least (length (same i)) && is_at_most item.most (length (same i))) && items_alike n rest parts.1 i

  scope_is : (items : List Counted) → list_any (λ item. nat_lt 0 item.least) items ≡ true → list_all in_order (all_hits items) ≡ true
      → fit_in_unit kind items ≡ fit_in_window 1 kind items
  scope_is items asks order =
      same_tests (fit_in_unit kind items) (fit_in_window 1 kind items)
      (λ fits. let one = (some-unit kind items asks).0 fits in (some-window 1 kind items asks).1 (one.0, sym (items_alike one.0 items order) ∙ one.1))
      (λ fits. let one = (some-window 1 kind items asks).0 fits in (some-unit kind items asks).1 (one.0, items_alike one.0 items order ∙ one.1))

  pub scope_counted : {H : Type 0} (stand : H → HitPlace) (unit : ℕ → ℕ) → ((first second : ℕ) → first ≤ second → unit first ≤ unit second)
      → (span : Span) (items : List (CountedItem H)) → list_any (λ item. nat_lt 0 item.least) items ≡ true
      → fit_in_unit kind (all_counted stand unit span items) ≡ fit_in_window 1 kind (all_counted stand unit span items)
  scope_counted stand unit rises span items asks =
      scope_is (all_counted stand unit span items) (list_any-map (λ item. nat_lt 0 item.least) (counted stand unit span) items ∙ asks)
      (hits_pass unit rises 1 stand span in_order (λ at lies.
      (λ i. nat_le (start_is unit at kind i) (end_is unit at kind i))
      ∙ le-leb (unit at.place) (unit (at.place + (at.words - 1))) (rises at.place (at.place + (at.words - 1)) (omega arith))) items)
