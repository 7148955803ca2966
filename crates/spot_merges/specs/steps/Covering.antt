-- Spots that some spots don't cover, as far as these were passed.
use Rattle.std.specs.Prelude.{◌≡◌, ℕ, ◌+◌, ◌≤◌, Bool, not, ◌&&◌, nat_lt, cond, List, max}
use Rattle.std.specs.List.{list_all}
use Rattle.ft_base.specs.Hits.{HitPlace}
use Rattle.place_merges.specs.declared.item.Variant.{Variant}
use Rattle.place_merges.specs.declared.spot.Spot.{Spot}
use Rattle.place_merges.specs.Sources.{wanted_words}
use Rattle.place_merges.specs.Spots.{from_lead, spots_left}
use Rattle.spot_merges.specs.Apart.{lies_within}
use Rattle.spot_merges.specs.declared.covering.Cover.{Cover}

-- the spots from the one on to which the search led
abbrev pub spots_ahead : {H : Type 0} → (H → HitPlace) → ℕ → List (Variant H) → Spot → List Spot
spots_ahead stand to variants lead = from_lead (spots_left to (wanted_words stand variants)) lead

-- whether a spot ends after all that were passed, and lies within none that is ahead
abbrev pub is_free : {H : Type 0} → (H → HitPlace) → ℕ → List (Variant H) → Cover → Spot → Bool
is_free stand to variants cover at =
    nat_lt cover.end (at.place + at.words) && list_all (λ other. not (lies_within at other)) (spots_ahead stand to variants cover.lead)

-- two tests are the same of the spots that begin at the place or after it
pub record SameAt (place : ℕ) (new old : Spot → Bool) : Type 0 where
  pub same : (at : Spot) → place ≤ at.place → new at ≡ old at

-- the place after the last word of some spots, and of one more where it has words
abbrev pub end_with : ℕ → Spot → ℕ
end_with end at = cond (nat_lt 0 at.words) (max end (at.place + at.words)) end
