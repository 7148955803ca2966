-- Spots that are passed, and the place to which the search for the next one led.
use Rattle.std.proofs.Common.{◌≡◌, ap, ◌∙◌, ℕ, ◌+◌, ◌-◌, ◌<◌, Bool, true, false, cond, ◌&&◌, not, List, ◌∷◌, length, arith}
use Rattle.std.specs.Prelude.{nat_le, nat_lt}
use Rattle.std.specs.List.{list_all, list_any}
use Rattle.std.proofs.lemmas.Bool.Decides.{nat_tests}
use Rattle.std.proofs.Math.Bool.{and-true}
use Rattle.ft_base.specs.Hits.{HitPlace}
use Rattle.place_merges.specs.Places.{Wanted}
use Rattle.place_merges.specs.Sources.{wanted_words}
use Rattle.place_merges.specs.Spots.{some_at, spot, spots_left}
use Rattle.place_merges.specs.declared.item.Variant.{Variant}
use Rattle.place_merges.specs.declared.spot.Spot.{Spot}
use Rattle.place_merges.specs.steps.Spotting.{is_before}
use Rattle.spot_merges.specs.Apart.{lies_within}
use Rattle.spot_merges.specs.declared.covering.Cover.{Cover}
use Rattle.spot_merges.specs.steps.Covering.{is_free, spots_ahead}
use Rattle.spot_merges.proofs.SpotTests.{all_after, any_after}

abbrev end_of : Spot → ℕ
end_of at = at.place + at.words

module _ {H : Type 0} (stand : H → HitPlace) (to : ℕ) where
  abbrev wants : List (Variant H) → List (List Wanted)
  wants variants = wanted_words stand variants

  -- ---- each step leads on: to a place further on, or to one of the spots that are left

  abbrev pub way_left : List (Variant H) → Spot → ℕ
  way_left variants lead = (to - lead.place) + length (spots_left to (wants variants) lead)

  -- ---- where the search led past a place

  none_within : (variants : List (Variant H)) (lead : Spot) (at : Spot) → at.place < lead.place
      → list_all (λ other. not (lies_within at other)) (spots_ahead stand to variants lead) ≡ true
  none_within variants lead at past = by (nat_lt 0 lead.words)
    where
      beyond : (place end : ℕ) → at.place < place → not (nat_le place at.place && nat_le (end_of at) end) ≡ true
      beyond place end less = grind (arith, nat_tests, less)

      further : (other : Spot) → is_before lead other ≡ true → at.place < other.place
      further other after = grind (arith, nat_tests, past, after)

      rest : list_all (λ other. not (lies_within at other)) (spots_left to (wants variants) lead) ≡ true
      rest = all_after to lead (some_at to (wants variants)) (λ other. not (lies_within at other)) (λ other after. beyond other.place (end_of other) (further other after))

      by : (b : Bool) → list_all (λ other. not (lies_within at other)) (cond b (lead ∷ spots_left to (wants variants) lead) (spots_left to (wants variants) lead)) ≡ true
      by true = λ i. beyond lead.place (end_of lead) past i && rest i
      by false = rest

  pub free_is : (variants : List (Variant H)) (cover : Cover) (at : Spot) → at.place < cover.lead.place
      → is_free stand to variants cover at ≡ nat_lt cover.end (at.place + at.words)
  free_is variants cover at past = ap (λ b. nat_lt cover.end (end_of at) && b) (none_within variants cover.lead at past) ∙ and-true (nat_lt cover.end (end_of at))

  -- ---- the spots of the left side

  abbrev some_free : List (Variant H) → Cover → List Spot → Bool
  some_free right cover spots = list_any (is_free stand to right cover) spots

  -- before the first
  pub free_starts : (from : ℕ) (left right : List (Variant H))
      → some_free right (record { end = from; lead = spot from 0 }) (spots_left to (wants left) (spot from 0))
      ≡ list_any (λ a. list_all (λ b. not (lies_within a b)) (spots_left to (wants right) (spot from 0))) (spots_left to (wants left) (spot from 0))
  free_starts from left right =
      any_after to (spot from 0) (some_at to (wants left)) (is_free stand to right (record { end = from; lead = spot from 0 }))
      (λ a. list_all (λ b. not (lies_within a b)) (spots_left to (wants right) (spot from 0)))
      (λ a h. ap (λ b. b && list_all (λ b. not (lies_within a b)) (spots_left to (wants right) (spot from 0))) (ends a h))
    where
      ends : (a : Spot) → is_before (spot from 0) a ≡ true → nat_lt from (a.place + a.words) ≡ true
      ends a h = grind (arith, nat_tests, h)
