-- How often a phrase occurs (XQuery and XPath Full Text 3.0, section 4.2.7.4: ApplyFTTimes).
use Rattle.std.specs.Prelude.{ℕ, zero, suc, pred, Bool, ◌&&◌, ◌==◌, nat_le, nat_lt, if◌then◌else◌, List, [], ◌∷◌, ◌++◌, map, Option, Some, None}
use Rattle.ft_base.specs.declared.hit.Match.{Match}
use Rattle.ft_base.specs.declared.range.Range.{Range}
use Rattle.ft_base.specs.declared.range.Range.TheVariants.{Exactly, AtLeast, AtMost, FromTo}
use Rattle.all_matches.specs.Boolean.{empty_match, both, ft_and, ft_not}

-- one Match for each choice of at least so many Matches, with all that the chosen ones need
abbrev pub at_least : ℕ → List Match → List Match
at_least zero [] = empty_match ∷ []
at_least (suc k) [] = []
at_least k (m ∷ rest) = map (both m) (at_least (pred k) rest) ++ at_least k rest

-- at least `low`, and not `high` and one more
abbrev pub between : ℕ → ℕ → List Match → List Match
between low high matches = if nat_lt high low then [] else ft_and (at_least low matches) (ft_not (at_least (suc high) matches))

abbrev pub ft_times : Range → List Match → List Match
ft_times (Exactly n) matches = between n n matches
ft_times (AtLeast n) matches = at_least n matches
ft_times (AtMost n) matches = between 0 n matches
ft_times (FromTo low high) matches = between low high matches

-- `occurs`, where it is written
abbrev pub occurring : Option Range → List Match → List Match
occurring None matches = matches
occurring (Some range) matches = ft_times range matches

-- whether a number is in a range
abbrev pub number_in_range : Range → ℕ → Bool
number_in_range (Exactly n) number = number == n
number_in_range (AtLeast n) number = nat_le n number
number_in_range (AtMost n) number = nat_le number n
number_in_range (FromTo low high) number = nat_le low number && nat_le number high
