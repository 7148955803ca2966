-- Searches for a spot after another one: where they lead, and what the moves of the sources leave.
use Rattle.std.specs.Prelude.{◌≡◌, ℕ, ◌+◌, ◌<◌, ◌≤◌, ◌==◌, Bool, true, false, ◌&&◌, ◌||◌, nat_lt, List, length}
use Rattle.std.specs.List.{list_any}
use Rattle.ft_base.specs.Hits.{HitPlace}
use Rattle.place_merges.specs.declared.item.Variant.{Variant}
use Rattle.place_merges.specs.declared.spot.Spot.{Spot}
use Rattle.place_merges.specs.steps.Searching.{variant_stands}

-- whether a spot comes before another one: by its place, then by its number of words
abbrev pub is_before : Spot → Spot → Bool
is_before a b = nat_lt a.place b.place || ((a.place == b.place) && nat_lt a.words b.words)

-- a spot of at least one word that begins at or after a place and ends before another
pub record IsInside (from to : ℕ) (at : Spot) : Type 0 where
  pub first : from ≤ at.place
  pub some : 1 ≤ at.words
  pub last : at.place + at.words ≤ to

-- the result is after the spot; where it has words the test holds there, and of the spots between, which have words, it holds
-- at none
pub record LeadsAfter (test : Spot → Bool) (at : Spot) (to : ℕ) (result : Spot) : Type 0 where
  pub ahead : is_before at result ≡ true
  pub last : result.place + result.words ≤ to
  pub there : 0 < result.words → test result ≡ true
  pub none : (other : Spot) → is_before at other ≡ true → is_before other result ≡ true → 1 ≤ other.words → test other ≡ false

-- two tests are the same after the spot
pub record SameAfter (at : Spot) (new old : Spot → Bool) : Type 0 where
  pub same : (other : Spot) → is_before at other ≡ true → new other ≡ old other

-- whether a variant has as many words as the spot, counts, and stands there before the end
abbrev pub variant_at : {H : Type 0} → (H → HitPlace) → ℕ → Variant H → Spot → Bool
variant_at stand to variant at = (length variant.items.items == at.words) && variant_stands stand to variant at.place

abbrev pub one_at : {H : Type 0} → (H → HitPlace) → ℕ → List (Variant H) → Spot → Bool
one_at stand to variants at = list_any (λ variant. variant_at stand to variant at) variants
