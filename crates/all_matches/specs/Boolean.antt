-- Or, And and Not of AllMatches (XQuery and XPath Full Text 3.0, sections 4.2.6.1 to 4.2.6.3: ApplyFTOr, ApplyFTAnd, ApplyFTUnaryNot).
use Rattle.std.specs.Prelude.{Bool, true, false, not, List, [], ◌∷◌, ◌++◌, map, flat_map, fold}
use Rattle.std.specs.List.{list_any, list_all}
use Rattle.ft_base.specs.declared.hit.Hit.{Hit}
use Rattle.ft_base.specs.declared.hit.Match.{Match}

-- the Match that needs nothing
abbrev pub empty_match : Match
empty_match = record { includes = []; excludes = [] }

abbrev pub ft_or : List Match → List Match → List Match
ft_or left right = left ++ right

-- what both Matches need
abbrev pub both : Match → Match → Match
both a b = record { includes = a.includes ++ b.includes; excludes = a.excludes ++ b.excludes }

abbrev pub ft_and : List Match → List Match → List Match
ft_and left right = flat_map (λ a. map (both a) right) left

abbrev pub with_include : Hit → Match → Match
with_include hit m = record { includes = hit ∷ m.includes; excludes = m.excludes }

abbrev pub with_exclude : Hit → Match → Match
with_exclude hit m = record { includes = m.includes; excludes = hit ∷ m.excludes }

-- of each Match one component, turned about: an include as an exclude, an exclude as an include
abbrev pub ft_not : List Match → List Match
ft_not [] = empty_match ∷ []
ft_not (m ∷ rest) =
    flat_map (λ hit. map (with_exclude hit) (ft_not rest)) m.includes
    ++ flat_map (λ hit. map (with_include hit) (ft_not rest)) m.excludes

-- Or and And of a list of operands, from left to right
abbrev pub ft_or_of : List (List Match) → List Match
ft_or_of operands = fold ft_or [] operands

abbrev pub ft_and_of : List (List Match) → List Match
ft_and_of operands = fold ft_and (empty_match ∷ []) operands

-- whether a Match has no exclude
abbrev pub is_clean : Match → Bool
is_clean m = is_empty m.excludes
  where
    is_empty : List Hit → Bool
    is_empty [] = true
    is_empty (hit ∷ rest) = false

-- whether some Match has no exclude (section 4.3, FTContainsExpr)
abbrev pub satisfied : List Match → Bool
satisfied matches = list_any is_clean matches

-- whether a Match has no exclude that a test keeps
abbrev pub survives : (Hit → Bool) → Match → Bool
survives kept m = list_all (λ hit. not (kept hit)) m.excludes
