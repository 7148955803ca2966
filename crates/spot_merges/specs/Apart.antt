-- Spots that lie in none of some others.
use Rattle.std.specs.Prelude.{◌+◌, Bool, not, ◌&&◌, nat_le, List}
use Rattle.std.specs.List.{list_all, list_any}
use Rattle.ft_base.specs.declared.hit.Hit.{Hit}
use Rattle.place_merges.specs.declared.spot.Spot.{Spot}

-- whether each word of the first spot is one of the second
abbrev pub lies_within : Spot → Spot → Bool
lies_within a b = nat_le b.place a.place && nat_le (a.place + a.words) (b.place + b.words)

-- whether some spot on the left lies within none on the right: `b` in `a b c b` lies within `b c` first, and then within none
abbrev pub some_apart : List Spot → List Spot → Bool
some_apart left right = list_any (λ a. list_all (λ b. not (lies_within a b)) right) left

-- the same of hits
abbrev pub hit_lies_within : Hit → Hit → Bool
hit_lies_within a b = nat_le b.from a.from && nat_le a.to b.to

abbrev pub some_hit_apart : List Hit → List Hit → Bool
some_hit_apart left right = list_any (λ a. list_all (λ b. not (hit_lies_within a b)) right) left
