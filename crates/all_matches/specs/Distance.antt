-- Distances (XQuery and XPath Full Text 3.0, section 4.2.7.6: ApplyFTDistance).
use Rattle.std.specs.Prelude.{ℕ, suc, ◌+◌, Bool, true, ◌&&◌, ◌||◌, ◌==◌, nat_lt, nat_le, if◌then◌else◌, List, [], ◌∷◌}
use Rattle.ft_base.specs.declared.hit.Hit.{Hit}
use Rattle.ft_base.specs.declared.range.Range.{Range}
use Rattle.ft_base.specs.declared.range.Range.TheVariants.{Exactly, AtLeast, AtMost, FromTo}
use Rattle.ft_base.specs.declared.unit.TextUnit.{TextUnit}
use Rattle.all_matches.specs.Positions.{start_in, end_in}

-- whether `start` less `end` less 1, which may be below zero, is in a range
abbrev pub gap_in_range : Range → ℕ → ℕ → Bool
gap_in_range (Exactly n) end start = start == suc (end + n)
gap_in_range (AtLeast n) end start = nat_le (suc (end + n)) start
gap_in_range (AtMost n) end start = nat_le start (suc (end + n))
gap_in_range (FromTo low high) end start = nat_le (suc (end + low)) start && nat_le start (suc (end + high))

-- whether the first hit stands no later than the second, by first and then last word
abbrev pub stands_before : Hit → Hit → Bool
stands_before a b = nat_lt a.from b.from || ((a.from == b.from) && nat_le a.to b.to)

-- a hit put into a sorted list of hits
abbrev pub put_in_order : Hit → List Hit → List Hit
put_in_order hit [] = hit ∷ []
put_in_order hit (first ∷ rest) = if stands_before hit first then hit ∷ first ∷ rest else first ∷ put_in_order hit rest

-- hits by first and then last word
abbrev pub in_order : List Hit → List Hit
in_order [] = []
in_order (hit ∷ rest) = put_in_order hit (in_order rest)

-- whether every two neighbours of a list have a distance in a range
abbrev pub neighbours_in_range : Range → TextUnit → List Hit → Bool
neighbours_in_range range kind [] = true
neighbours_in_range range kind (a ∷ []) = true
neighbours_in_range range kind (a ∷ b ∷ rest) = gap_in_range range (end_in kind a) (start_in kind b) && neighbours_in_range range kind (b ∷ rest)

-- whether the distance of two hits is in a range, the one that stands first being taken first
abbrev pub distance_in_range : Range → TextUnit → Hit → Hit → Bool
distance_in_range range kind a b =
    if stands_before a b then gap_in_range range (end_in kind a) (start_in kind b) else gap_in_range range (end_in kind b) (start_in kind a)
