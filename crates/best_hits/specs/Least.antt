-- Lists of hits in the order of their places, and the least of some.
use Rattle.std.specs.Prelude.{Bool, true, false, ◌&&◌, ◌||◌, ◌==◌, nat_lt, if◌then◌else◌, List, [], ◌∷◌, filter, map}
use Rattle.ft_base.specs.declared.hit.Hit.{Hit}
use Rattle.ft_base.specs.declared.hit.Match.{Match}
use Rattle.all_matches.specs.Boolean.{is_clean}

-- by the first place and then the last one
abbrev pub is_earlier : Hit → Hit → Bool
is_earlier a b = nat_lt a.from b.from || (a.from == b.from && nat_lt a.to b.to)

abbrev pub has_same_places : Hit → Hit → Bool
has_same_places a b = a.from == b.from && a.to == b.to

-- hit by hit; a list that goes on comes after the one that ends
abbrev pub comes_before : List Hit → List Hit → Bool
comes_before [] [] = false
comes_before [] (b ∷ bs) = true
comes_before (a ∷ more) [] = false
comes_before (a ∷ more) (b ∷ bs) = is_earlier a b || (has_same_places a b && comes_before more bs)

-- the least of a list and others: of two that have the same places the first
abbrev pub least_from : List Hit → List (List Hit) → List Hit
least_from best [] = best
least_from best (next ∷ rest) = least_from (if comes_before next best then next else best) rest

abbrev pub least : List (List Hit) → List Hit
least [] = []
least (first ∷ rest) = least_from first rest

-- the includes of the Matches without excludes
abbrev pub clean_includes : List Match → List (List Hit)
clean_includes matches = map (λ m. m.includes) (filter is_clean matches)

abbrev pub least_includes : List Match → List Hit
least_includes matches = least (clean_includes matches)
