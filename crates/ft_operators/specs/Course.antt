-- The ways of an operator that a walk goes through: in each way of the operand of a window filter those windows that it asks for,
-- and of the hits of a phrase those that lie where those that were chosen before, and the filters round all of them, let them.
use Rattle.std.specs.Prelude.{ℕ, zero, suc, ◌+◌, ◌-◌, Bool, not, ◌||◌, nat_le, if◌then◌else◌, fold, ℤ, pos, negsuc, List, [], ◌∷◌, ◌++◌, map, filter, flat_map, take, drop, Option, Some, None}
use Rattle.std.specs.List.{list_any, list_all}
use Rattle.ft_base.specs.Lists.{is_not_empty}
use Rattle.ft_base.specs.declared.hit.Hit.{Hit}
use Rattle.ft_base.specs.declared.filter.Filter.{Filter}
use Rattle.ft_base.specs.declared.span.Span.{Span}
use Rattle.all_matches.specs.declared.window.Window.{Window}
use Rattle.all_matches.specs.Filters.{passes, choices}
use Rattle.all_matches.specs.Ways.{Operator, phrase, either, together, apart, negated, through_filter, matches_of}
use Rattle.all_matches.specs.Ways.{Way, one_hit, two_ways, turned_about, by_filter, way_includes}
use Rattle.all_matches.specs.MildNot.{stands_out}
use Rattle.ft_operators.specs.Bounds.{all_numbers, lies_in, everywhere, no_reach, numbers_round, round_hits, reach_inside, bounds_inside}
use Rattle.ft_operators.specs.Extents.{lone_size, untold}
use Rattle.ft_operators.specs.declared.bounds.Bounds.{Bounds}
use Rattle.ft_operators.specs.declared.bounds.UnitBounds.{UnitBounds}
use Rattle.ft_operators.specs.declared.course.Course.{Course}
use Rattle.ft_operators.specs.declared.course.Windows.{Windows}
use Rattle.ft_operators.specs.declared.extent.Extent.{Extent}
use Rattle.ft_operators.specs.declared.extent.UnitExtents.{UnitExtents}
use Rattle.ft_operators.specs.declared.course.Windows.TheVariants.{Each, Telling, First}

-- how many numbers stand after this one, up to 0
abbrev pub up_to_zero : ℤ → ℕ
up_to_zero (pos n) = 0
up_to_zero (negsuc n) = suc n

-- the first of some windows, each of which begins one number after the one before it, and those that begin with a word: of
-- the windows that begin before the first word, the first one keeps no hit that another of them doesn't keep
abbrev pub telling : List (Option Window) → List (Option Window)
telling [] = []
telling (None ∷ more) = None ∷ more
telling (Some first ∷ more) = Some first ∷ drop (up_to_zero first.from) more

-- those of a filter's choices that are asked for
abbrev pub asked_for : Windows → List (Option Window) → List (Option Window)
asked_for Each all = all
asked_for Telling all = telling all
asked_for First all = take 1 all

-- the ways through a filter
abbrev pub filtered_on : Filter → Course → Way → List Way
filtered_on kind course way =
    if passes kind (way_includes way) course.item then map (by_filter way kind) (asked_for course.windows (choices kind (way_includes way))) else []

-- the course of the operand of a filter
abbrev pub course_inside : Filter → Course → Course
course_inside kind course = record {
  item = course.item;
  windows = course.windows;
  bounds = bounds_inside course.windows kind course.bounds;
  reach = reach_inside course.windows course.extents kind course.reach;
  extents = course.extents;
  beside = course.beside;
}

-- the course of the right side of an And, where these hits were chosen on the left side
abbrev pub course_beside : Course → List Hit → Course
course_beside course hits = record {
  item = course.item;
  windows = course.windows;
  bounds = round_hits course.reach course.bounds hits;
  reach = course.reach;
  extents = course.extents;
  beside = course.beside;
}

-- the course without bounds
abbrev pub without_bounds : Course → Course
without_bounds course = record { item = course.item; windows = course.windows; bounds = everywhere; reach = no_reach; extents = course.extents; beside = course.beside }

-- the words that an include of so many words lies in which covers each word of a hit
abbrev pub round_words : Option ℕ → UnitBounds → Hit → UnitBounds
round_words words bounds hit = if nat_le hit.from hit.to then numbers_round words hit.from hit.to bounds else bounds

-- the course of the right side of a mild not, where these hits were chosen on the left side: they stand out of each way that it
-- leaves out
abbrev pub course_out : Course → List Hit → Course
course_out course hits = record {
  item = course.item;
  windows = course.windows;
  bounds = record everywhere { words = fold (round_words (lone_size course.beside)) all_numbers hits };
  reach = no_reach;
  extents = course.extents;
  beside = course.beside;
}

-- whether a way of the left side of a mild not is one of it, where the right side has these ways
abbrev pub admitted : List Way → List Hit → Bool
admitted right left = not (list_any (λ way. is_not_empty (way_includes way)) right) || list_all (λ way. stands_out left (way_includes way)) right

-- the ways of an operator
unfoldable pub ways_on : Course → Operator → List Way
ways_on course (phrase found) = map one_hit (filter (lies_in course.bounds) found)
ways_on course (either left right) = ways_on course left ++ ways_on course right
ways_on course (together left right) = flat_map (λ a. map (two_ways a) (ways_on (course_beside course (way_includes a)) right)) (ways_on course left)
ways_on course (apart left right) = filter (λ a. admitted (ways_on (course_out course (way_includes a)) right) (way_includes a)) (ways_on course left)
ways_on course (negated operand) = turned_about (matches_of course.item operand) ∷ []
ways_on course (through_filter operand kind) = flat_map (filtered_on kind course) (ways_on (course_inside kind course) operand)

-- a way of the left side of an And with each way of the right one
abbrev pub pairs_with : Course → Operator → Way → List Way
pairs_with course right a = map (two_ways a) (ways_on (course_beside course (way_includes a)) right)

-- whether a way of the left side of a mild not, with these includes, is one of it
abbrev pub passes_out : Course → Operator → List Hit → Bool
passes_out course right left = admitted (ways_on (course_out course left) right) left

abbrev pub stands_on : Course → Operator → Way → Bool
stands_on course right a = passes_out course right (way_includes a)

-- the courses of an item
abbrev pub every : Span → Course
every item = record { item = item; windows = Each; bounds = everywhere; reach = no_reach; extents = untold; beside = None }

-- where the ways have so much before the distances inside, and those of right sides of mild nots so much
abbrev pub tellings : Span → UnitExtents → Option Extent → Course
tellings item extents beside = record { item = item; windows = Telling; bounds = everywhere; reach = no_reach; extents = extents; beside = beside }

-- that of a negated selection, whose includes lie in bounds
abbrev pub firsts : Span → Bounds → UnitExtents → Option Extent → Course
firsts item bounds extents beside = record { item = item; windows = First; bounds = bounds; reach = no_reach; extents = extents; beside = beside }

-- the number, among all windows of a size round a hit that ends there, of that one among those that are asked for
abbrev pub number_among : Windows → ℕ → ℕ → ℕ → ℕ
number_among Each size last lead = lead
number_among Telling size last zero = 0
number_among Telling size last (suc lead) = suc (lead + (size - suc last))
number_among First size last lead = lead
