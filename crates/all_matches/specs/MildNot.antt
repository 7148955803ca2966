-- Mild not of AllMatches (XQuery and XPath Full Text 3.0, section 4.2.6.4: ApplyFTMildNot).
use Rattle.std.specs.Prelude.{Bool, true, false, not, if◌then◌else◌, List, [], ◌∷◌, filter}
use Rattle.std.specs.List.{list_any, list_all}
use Rattle.ft_base.specs.Lists.{is_not_empty}
use Rattle.ft_base.specs.declared.hit.Hit.{Hit}
use Rattle.ft_base.specs.declared.hit.Match.{Match}
use Rattle.all_matches.specs.Positions.{covers, places_from_to}

-- whether some place covered by the hits on the left is covered by no hit on the right
abbrev pub stands_out : List Hit → List Hit → Bool
stands_out left right = list_any (λ hit. list_any (λ place. not (list_any (λ other. covers other place) right)) (places_from_to hit.from hit.to)) left

-- the Matches of the left side that stand out of each Match of the right side
abbrev pub ft_mild_not : List Match → List Match → List Match
ft_mild_not left right =
    if list_any (λ m. is_not_empty m.includes) right then filter (λ a. list_all (λ b. stands_out a.includes b.includes) right) left else left
