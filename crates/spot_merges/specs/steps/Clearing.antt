-- Windows with none of some spots in them, as far as these were passed.
use Rattle.std.specs.Prelude.{◌≡◌, ℕ, ◌+◌, ◌≤◌, Bool, true, ◌&&◌, nat_lt, cond, List, ◌++◌, Option, Some, None, option_to_list}
use Rattle.ft_base.specs.Hits.{HitPlace}
use Rattle.place_merges.specs.declared.item.Variant.{Variant}
use Rattle.place_merges.specs.declared.spot.Spot.{Spot}
use Rattle.spot_merges.specs.Clear.{begins, has_clear_window}
use Rattle.spot_merges.specs.declared.clear.Passed.{Passed}
use Rattle.spot_merges.specs.steps.Covering.{spots_ahead}

-- the place of the last spot that was passed, and those of the spots that are ahead
abbrev pub places_round : {H : Type 0} → (H → HitPlace) → ℕ → List (Variant H) → Passed → List ℕ
places_round stand to variants passed = option_to_list passed.last ++ begins (spots_ahead stand to variants passed.lead)

-- whether some window that holds the first word of a spot holds none of them
abbrev pub is_clear : {H : Type 0} → (H → HitPlace) → ℕ → ℕ → List (Variant H) → Passed → Spot → Bool
is_clear stand to size variants passed at = has_clear_window size (places_round stand to variants passed) at.place

-- the place of the last of some spots, and of one more where it has words
abbrev pub last_with : Option ℕ → Spot → Option ℕ
last_with last at = cond (nat_lt 0 at.words) (Some at.place) last

-- the search led to a spot that has words, or up to the place
pub record IsLed (end : ℕ) (lead : Spot) : Type 0 where
  pub far : lead.words ≡ 0 → end ≤ lead.place

-- whether so many places have room between one place and the next spot, if the search led to one
abbrev pub has_room : ℕ → ℕ → Spot → Bool
has_room size place lead = cond (nat_lt 0 lead.words) (nat_lt (place + size) lead.place) true

-- whether a window round a place has room between the last spot that was passed and the next one
abbrev pub has_window : ℕ → Option ℕ → Spot → ℕ → Bool
has_window size None lead place = nat_lt 0 size
has_window size (Some last) lead place = nat_lt 0 size && (nat_lt last place && has_room size last lead)
