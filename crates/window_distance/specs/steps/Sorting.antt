-- Hits in the order of the text, found one place after the other.
use Rattle.std.specs.Prelude.{Bool, true, not, ◌&&◌, if◌then◌else◌, List, [], ◌∷◌, fold, filter, Option, Some, None}
use Rattle.ft_base.specs.declared.hit.Hit.{Hit}
use Rattle.ft_base.specs.declared.range.Range.{Range}
use Rattle.ft_base.specs.declared.unit.TextUnit.{TextUnit}
use Rattle.all_matches.specs.Positions.{start_in, end_in}
use Rattle.all_matches.specs.Distance.{gap_in_range, stands_before}

-- whether a hit stands after the words of another one
abbrev pub is_after : Option Hit → Hit → Bool
is_after None hit = true
is_after (Some place) hit = not (stands_before hit place)

-- whether a hit has the first and the last word of another one
abbrev pub stands_with : Hit → Hit → Bool
stands_with place hit = stands_before place hit && stands_before hit place

-- of two hits the one that stands first
abbrev pub nearer : Hit → Hit → Hit
nearer best hit = if stands_before best hit then best else hit

-- of hits the one that stands first
abbrev pub first_of : List Hit → Option Hit
first_of [] = None
first_of (hit ∷ rest) = Some (fold nearer hit rest)

-- of the hits after a place the one that stands first
abbrev pub first_after : Option Hit → List Hit → Option Hit
first_after place hits = first_of (filter (is_after place) hits)

-- whether a hit has a distance in a range to the one before it, if there is one
abbrev pub follows : Range → TextUnit → Option Hit → Hit → Bool
follows range kind None hit = true
follows range kind (Some last) hit = gap_in_range range (end_in kind last) (start_in kind hit)

-- whether each of some hits follows the one before it
abbrev pub all_follow : Range → TextUnit → Option Hit → List Hit → Bool
all_follow range kind last [] = true
all_follow range kind last (hit ∷ rest) = follows range kind last hit && all_follow range kind (Some hit) rest

-- the last of some hits
abbrev pub last_of : Option Hit → List Hit → Option Hit
last_of last [] = last
last_of last (hit ∷ rest) = last_of (Some hit) rest
