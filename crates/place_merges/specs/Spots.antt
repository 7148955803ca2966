-- The spots of a text, each some words one after the other: place after place, and at a place by their numbers of words.
use Rattle.std.specs.Prelude.{ℕ, suc, ◌-◌, ◌==◌, Bool, ◌&&◌, List, [], ◌∷◌, ◌++◌, map, filter, flat_map, length, Option, Some, None, cond, nat_lt}
use Rattle.std.specs.List.{list_any, range_with_len}
use Rattle.place_merges.specs.declared.spot.Spot.{Spot}
use Rattle.place_merges.specs.Places.{Wanted, stands_before}

abbrev pub spot : ℕ → ℕ → Spot
spot place words = record { place = place; words = words }

-- the spots at a place that end before `to`, of one word and more
abbrev pub spots_at : ℕ → ℕ → List Spot
spots_at to place = map (spot place) (range_with_len 1 (to - place))

-- all spots from one place on that end before another
abbrev pub spots_between : ℕ → ℕ → List Spot
spots_between from to = flat_map (spots_at to) (range_with_len from (to - from))

-- those after a spot: those of more words at its place, and those of the later places
abbrev pub spots_after : ℕ → Spot → List Spot
spots_after to at = map (spot at.place) (range_with_len (suc at.words) ((to - at.place) - at.words)) ++ spots_between (suc at.place) to

-- whether one of the variants has as many words as the spot, and stands there, before the end
abbrev pub some_at : ℕ → List (List Wanted) → Spot → Bool
some_at to variants at = list_any (λ variant. (length variant == at.words) && stands_before to at.place variant) variants

-- the spots after one at which one of the variants stands
abbrev pub spots_left : ℕ → List (List Wanted) → Spot → List Spot
spots_left to variants at = filter (some_at to variants) (spots_after to at)

-- a spot that was found, if there is one, with those that are left after it
abbrev pub from_found : (Spot → List Spot) → Option Spot → List Spot
from_found left None = []
from_found left (Some at) = at ∷ left at

-- a spot to which a search led, with those that are left after it: where it has no words, nothing was found there
abbrev pub from_lead : (Spot → List Spot) → Spot → List Spot
from_lead left at = cond (nat_lt 0 at.words) (at ∷ left at) (left at)
