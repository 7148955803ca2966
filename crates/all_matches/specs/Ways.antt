-- A selection whose phrases have been found, and the ways in which it may be satisfied: in each, one hit of each phrase that it
-- needs, one side of each Or, and one window of each window filter is chosen. What is left to choose are the includes of the
-- negated selections inside, and a way is clean where they can be chosen so that no exclude stays.
use Rattle.std.specs.Prelude.{Bool, true, false, not, ◌&&◌, if◌then◌else◌, List, [], ◌∷◌, ◌++◌, map, filter, flat_map, Option}
use Rattle.std.specs.List.{list_any, list_all}
use Rattle.ft_base.specs.Lists.{is_not_empty}
use Rattle.ft_base.specs.declared.hit.Hit.{Hit}
use Rattle.ft_base.specs.declared.hit.Match.{Match}
use Rattle.ft_base.specs.declared.filter.Filter.{Filter}
use Rattle.ft_base.specs.declared.span.Span.{Span}
use Rattle.all_matches.specs.declared.window.Window.{Window}
use Rattle.all_matches.specs.Hits.{match_of_hit}
use Rattle.all_matches.specs.Boolean.{ft_or, ft_and, ft_not, is_clean}
use Rattle.all_matches.specs.MildNot.{stands_out, ft_mild_not}
use Rattle.all_matches.specs.Filters.{passes, choices, keeps, after, ft_filtered}

-- a selection over a text, with the hits of its phrases
pub data Operator : Type 0 where
  phrase : List Hit → Operator
  either : Operator → Operator → Operator
  together : Operator → Operator → Operator
  apart : Operator → Operator → Operator
  negated : Operator → Operator
  through_filter : Operator → Filter → Operator

-- the AllMatches of an operator, in the item of this span
unfoldable pub matches_of : Span → Operator → List Match
matches_of item (phrase found) = map match_of_hit found
matches_of item (either left right) = ft_or (matches_of item left) (matches_of item right)
matches_of item (together left right) = ft_and (matches_of item left) (matches_of item right)
matches_of item (apart left right) = ft_mild_not (matches_of item left) (matches_of item right)
matches_of item (negated operand) = ft_not (matches_of item operand)
matches_of item (through_filter operand kind) = ft_filtered kind item (matches_of item operand)

-- what was chosen
pub data Way : Type 0 where
  one_hit : Hit → Way
  two_ways : Way → Way → Way
  turned_about : List Match → Way
  by_filter : Way → Filter → Option Window → Way

-- the includes of the Matches that are made in a way
abbrev pub way_includes : Way → List Hit
way_includes (one_hit hit) = hit ∷ []
way_includes (two_ways left right) = way_includes left ++ way_includes right
way_includes (turned_about matches) = []
way_includes (by_filter way kind choice) = after kind (way_includes way)

-- a Match after a filter, whose includes before the filter are known
abbrev pub after_filter : Filter → List Hit → Option Window → Match → Match
after_filter kind includes choice m = record { includes = after kind includes; excludes = filter (keeps kind includes choice) m.excludes }

-- the Matches that are made in a way
abbrev pub made : Way → List Match
made (one_hit hit) = match_of_hit hit ∷ []
made (two_ways left right) = ft_and (made left) (made right)
made (turned_about matches) = ft_not matches
made (by_filter way kind choice) = map (after_filter kind (way_includes way) choice) (made way)

-- the ways of mild not: those of the left side that stand out of each of the right side
abbrev pub standing_out : List Way → List Way → List Way
standing_out left right =
    if list_any (λ way. is_not_empty (way_includes way)) right then filter (λ a. list_all (λ b. stands_out (way_includes a) (way_includes b)) right) left
    else left

-- the ways through a filter
abbrev pub filtered_ways : Filter → Span → Way → List Way
filtered_ways kind item way = if passes kind (way_includes way) item then map (by_filter way kind) (choices kind (way_includes way)) else []

-- the ways of an operator
unfoldable pub ways_of : Span → Operator → List Way
ways_of item (phrase found) = map one_hit found
ways_of item (either left right) = ways_of item left ++ ways_of item right
ways_of item (together left right) = flat_map (λ a. map (two_ways a) (ways_of item right)) (ways_of item left)
ways_of item (apart left right) = standing_out (ways_of item left) (ways_of item right)
ways_of item (negated operand) = turned_about (matches_of item operand) ∷ []
ways_of item (through_filter operand kind) = flat_map (filtered_ways kind item) (ways_of item operand)

-- whether the negated selections of a way leave no exclude that a test keeps: each filter round one adds itself to the test
abbrev pub clean_under : (Hit → Bool) → Way → Bool
clean_under kept (one_hit hit) = true
clean_under kept (two_ways left right) = clean_under kept left && clean_under kept right
clean_under kept (turned_about matches) = not (list_any (λ m. list_all kept m.includes) matches)
clean_under kept (by_filter way kind choice) = clean_under (λ hit. keeps kind (way_includes way) choice hit && kept hit) way

-- whether no negated selection stands in an operator
abbrev pub without_negation : Operator → Bool
without_negation (phrase found) = true
without_negation (either left right) = without_negation left && without_negation right
without_negation (together left right) = without_negation left && without_negation right
without_negation (apart left right) = without_negation left && without_negation right
without_negation (negated operand) = false
without_negation (through_filter operand kind) = without_negation operand

-- whether negated selections stand neither inside one another nor inside mild not
abbrev pub is_plain : Operator → Bool
is_plain (phrase found) = true
is_plain (either left right) = is_plain left && is_plain right
is_plain (together left right) = is_plain left && is_plain right
is_plain (apart left right) = without_negation left && without_negation right
is_plain (negated operand) = without_negation operand
is_plain (through_filter operand kind) = is_plain operand

-- the Match of a way without negated selections
abbrev pub bare_match : Way → Match
bare_match way = record { includes = way_includes way; excludes = [] }

-- whether no negated selection was passed on a way, and whether those that were passed have no excludes
abbrev pub is_bare : Way → Bool
is_bare (one_hit hit) = true
is_bare (two_ways left right) = is_bare left && is_bare right
is_bare (turned_about matches) = false
is_bare (by_filter way kind choice) = is_bare way

abbrev pub is_good : Way → Bool
is_good (one_hit hit) = true
is_good (two_ways left right) = is_good left && is_good right
is_good (turned_about matches) = list_all is_clean matches
is_good (by_filter way kind choice) = is_good way
