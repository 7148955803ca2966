-- A phrase stands at an edge of a span where one of its variants stands at the place for its number of words.
use Rattle.std.proofs.Common.{◌≡◌, refl, sym, ap, ◌∙◌, ℕ, ◌+◌, ◌-◌, ◌≤◌, ◌==◌, Bool, true, false, true≢false, cond, ◌&&◌, ◌||◌, List, [], ◌∷◌, length, Option, Some, None, arith, inl, inr}
use Rattle.std.specs.Prelude.{nat_le, nat_lt}
use Rattle.std.specs.List.{list_any}
use Rattle.std.specs.Option.{option_map_or}
use Rattle.std.proofs.lemmas.Bool.{and_from, and_parts, eqb-true, or_cases, or_left, or_parts, or_right}
use Rattle.std.proofs.lemmas.Bool.Decides.{nat_tests}
use Rattle.std.proofs.lemmas.Option.{cond_some, none-some, same_Some}
use Rattle.ft_base.specs.declared.span.Span.{Span}
use Rattle.ft_base.proofs.Truth.{same_tests}
use Rattle.place_merges.specs.Places.{Wanted, stands_at, stands_before}
use Rattle.place_merges.specs.Spots.{some_at, spot, spots_between}
use Rattle.place_merges.specs.declared.spot.Spot.{Spot}
use Rattle.spot_merges.specs.Edges.{edge_place, is_at, place_at, spots_of, stands_at_edge}
use Rattle.spot_merges.specs.declared.edge.Edge.{Edge}
use Rattle.spot_merges.specs.declared.edge.Edge.TheVariants.{Start, End, Both}
use Rattle.spot_merges.proofs.SpotRanges.{IsThere, spot_found, spot_there}
use Rattle.spot_merges.proofs.SpotTests.{any_kept}

-- a spot of the span at the edge
pub record IsAtEdge (edge : Edge) (span : Span) (at : Spot) : Type 0 where
  pub some : 1 ≤ at.words
  pub first : span.from ≤ at.place
  pub last : at.place + at.words ≤ span.to
  pub holds : is_at edge span at ≡ true

module _ (span : Span) where
  -- ---- the place of a spot at an edge

  spot_placed : (edge : Edge) (at : Spot) → IsAtEdge edge span at → place_at edge span at.words ≡ Some at.place
  spot_placed Start at is = ap Some (sym (eqb-true at.place span.from is.holds))
  spot_placed End at is =
      let end = eqb-true (at.place + at.words) span.to is.holds in
      ap Some (omega (arith, end))
  spot_placed Both at is =
      let parts = and_parts (at.place == span.from) (at.place + at.words == span.to) is.holds in
      let place = eqb-true at.place span.from parts.0 in
      let end = eqb-true (at.place + at.words) span.to parts.1 in
      let all : (at.words == span.to - span.from) ≡ true = grind (arith, nat_tests, place, end) in
      ap (λ b. cond b (Some span.from) None) all ∙ ap Some (sym place)

  pub spot_place : (edge : Edge) (at : Spot) → IsAtEdge edge span at → edge_place edge span at.words ≡ Some at.place
  spot_place edge at is =
      let some = is.some in
      let first = is.first in
      let last = is.last in
      let none : (at.words == 0) ≡ false = grind (arith, nat_tests, some) in
      let more : nat_lt (span.to - span.from) at.words ≡ false = grind (arith, nat_tests, first, last) in
      (λ i. cond (none i || more i) None (place_at edge span at.words)) ∙ spot_placed edge at is

  -- ---- the spot at a place

  module _ (words place : ℕ) (some : 1 ≤ words) (few : words ≤ span.to - span.from) where
    placed_spot : (edge : Edge) → place_at edge span words ≡ Some place → IsAtEdge edge span (spot place words)
    placed_spot Start h =
        let is = same_Some span.from place h in
        record { some = some; first = omega (arith, is); last = omega (arith, is, some, few); holds = grind (arith, nat_tests, is) }
    placed_spot End h =
        let is = same_Some (span.to - words) place h in
        record { some = some; first = omega (arith, is, some, few); last = omega (arith, is, some, few); holds = grind (arith, nat_tests, is, some, few) }
    placed_spot Both h =
        let parts = cond_some (words == span.to - span.from) span.from place h in
        let all = eqb-true words (span.to - span.from) parts.0 in
        let is = parts.1 in
        record {
          some = some;
          first = omega (arith, is);
          last = omega (arith, is, all, some);
          holds = and_from (place == span.from) (place + words == span.to) (grind (arith, nat_tests, is)) (grind (arith, nat_tests, is, all, some));
        }

  pub place_spot : (edge : Edge) (words place : ℕ) → edge_place edge span words ≡ Some place → IsAtEdge edge span (spot place words)
  place_spot edge words place = by ((words == 0) || nat_lt (span.to - span.from) words) refl
    where
      by : (b : Bool) → ((words == 0) || nat_lt (span.to - span.from) words) ≡ b → cond b None (place_at edge span words) ≡ Some place → IsAtEdge edge span (spot place words)
      by true is h = absurd (none-some place h)
      by false is h =
          let parts = or_parts (words == 0) (nat_lt (span.to - span.from) words) is in
          let none = parts.0 in
          let more = parts.1 in
          placed_spot words place (grind (arith, nat_tests, none)) (grind (arith, nat_tests, more)) edge h

  -- ---- variants

  module _ (edge : Edge) where
    abbrev test : List (List Wanted) → Spot → Bool
    test variants at = some_at span.to variants at && is_at edge span at

    abbrev is_there : Spot → List Wanted → Bool
    is_there at variant = (length variant == at.words) && stands_before span.to at.place variant

    -- a variant that stands on a spot at the edge
    one_there : (at : Spot) → IsAtEdge edge span at → (variant : List Wanted) → is_there at variant ≡ true → stands_at_edge edge span variant ≡ true
    one_there at is variant h =
        let parts = and_parts (length variant == at.words) (stands_before span.to at.place variant) h in
        let then = and_parts (nat_le (at.place + length variant) span.to) (stands_at at.place variant) parts.1 in
        ap (λ n. option_map_or (λ place. stands_at place variant) (edge_place edge span n) false) (eqb-true (length variant) at.words parts.0)
        ∙ ap (λ o. option_map_or (λ place. stands_at place variant) o false) (spot_place edge at is)
        ∙ then.1

    some_there : (at : Spot) → IsAtEdge edge span at → (variants : List (List Wanted)) → some_at span.to variants at ≡ true → list_any (stands_at_edge edge span) variants ≡ true
    some_there at is [] h = absurd (true≢false (sym h))
    some_there at is (variant ∷ variants) h = elim (or_cases (is_there at variant) (list_any (is_there at) variants) h) [
      | inl here ↦ or_left (stands_at_edge edge span variant) (list_any (stands_at_edge edge span) variants) (one_there at is variant here)
      | inr there ↦ or_right (stands_at_edge edge span variant) (list_any (stands_at_edge edge span) variants) (some_there at is variants there)
    ]

    -- a spot for a variant that stands at the edge
    record Found (variant : List Wanted) : Type 0 where
      place : ℕ
      spot : IsAtEdge edge span (spot place (length variant))
      stands : stands_at place variant ≡ true

    found : (variant : List Wanted) → stands_at_edge edge span variant ≡ true → Found variant
    found variant = by (edge_place edge span (length variant)) refl
      where
        by : (o : Option ℕ) → edge_place edge span (length variant) ≡ o → option_map_or (λ place. stands_at place variant) o false ≡ true → Found variant
        by None is h = absurd (true≢false (sym h))
        by (Some place) is h = record { place = place; spot = place_spot edge (length variant) place is; stands = h }

    some_spot : (variants : List (List Wanted)) → list_any (stands_at_edge edge span) variants ≡ true → IsThere (test variants) span.from span.to
    some_spot [] h = absurd (true≢false (sym h))
    some_spot (variant ∷ variants) h = elim (or_cases (stands_at_edge edge span variant) (list_any (stands_at_edge edge span) variants) h) [
      | inl here ↦
          let one = found variant here in
          let at = spot one.place (length variant) in
          let last = one.spot.last in
          let same : (length variant == length variant) ≡ true = grind (arith, nat_tests) in
          let end : nat_le (one.place + length variant) span.to ≡ true = grind (arith, nat_tests, last) in
          let there = and_from (length variant == length variant) (stands_before span.to one.place variant) same
          (and_from (nat_le (one.place + length variant) span.to) (stands_at one.place variant) end one.stands) in
          record {
            at = at;
            first = one.spot.first;
            some = one.spot.some;
            last = one.spot.last;
            holds = and_from (some_at span.to (variant ∷ variants) at) (is_at edge span at) (or_left (is_there at variant) (list_any (is_there at) variants) there) one.spot.holds;
          }
      | inr there ↦
          let rest = some_spot variants there in
          let parts = and_parts (some_at span.to variants rest.at) (is_at edge span rest.at) rest.holds in
          record {
            at = rest.at;
            first = rest.first;
            some = rest.some;
            last = rest.last;
            holds = and_from (some_at span.to (variant ∷ variants) rest.at) (is_at edge span rest.at)
                (or_right (is_there rest.at variant) (list_any (is_there rest.at) variants) parts.0) parts.1;
          }
    ]

    pub edge_variants : (variants : List (List Wanted)) → list_any (stands_at_edge edge span) variants ≡ list_any (is_at edge span) (spots_of span variants)
    edge_variants variants =
        same_tests (list_any (stands_at_edge edge span) variants) (list_any (test variants) (spots_between span.from span.to))
        (λ h. spot_there (test variants) span.to span.from (some_spot variants h))
        (λ h.
        let there = spot_found (test variants) span.to span.from h in
        let parts = and_parts (some_at span.to variants there.at) (is_at edge span there.at) there.holds in
        some_there there.at (record { some = there.some; first = there.first; last = there.last; holds = parts.1 }) variants parts.0)
        ∙ sym (any_kept (is_at edge span) (some_at span.to variants) (spots_between span.from span.to))
