-- What is left of the hits of a phrase, from the place on.
use Rattle.std.specs.Prelude.{ℕ, List, [], ◌∷◌, map, Option, Some, None}
use Rattle.ft_base.specs.declared.hit.Hit.{Hit}
use Rattle.place_merges.specs.Places.{Wanted}
use Rattle.place_merges.specs.Spots.{spots_left}
use Rattle.index_phrases.specs.Phrases.{numbered_hit}
use Rattle.index_phrases.specs.declared.found.Found.{Found}

-- the hit that was found, and those on the spots after it at which one of the variants still stands
abbrev pub rest_of : ℕ → List (List Wanted) → Option Found → List Hit
rest_of number variants None = []
rest_of number variants (Some found) =
    found.hit ∷ map (numbered_hit number found.target.breaks.breaks.now found.target.span) (spots_left found.to variants found.spot)
