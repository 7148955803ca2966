-- Where a walk through the ways of an operator stands, read off the walks through those of its operands. In each state of
-- these walks, where nothing is left of the present way of an operand, nothing is left of the operator.
use Rattle.std.specs.Prelude.{ℕ, ◌+◌, max, Bool, if◌then◌else◌, Option}
use Rattle.std.specs.Prelude.{List, [], ◌∷◌, ◌++◌, map, filter, flat_map, length, drop}
use Rattle.ft_base.specs.declared.filter.Filter.{Filter}
use Rattle.ft_base.specs.declared.hit.Hit.{Hit}
use Rattle.all_matches.specs.declared.window.Window.{Window}
use Rattle.all_matches.specs.Filters.{passes, choices}
use Rattle.all_matches.specs.Ways.{Operator, phrase, either, together, apart, negated, through_filter, matches_of}
use Rattle.all_matches.specs.Ways.{Way, one_hit, two_ways, turned_about, by_filter, way_includes}
use Rattle.ft_operators.specs.declared.course.Course.{Course}
use Rattle.ft_operators.specs.Course.{asked_for, filtered_on, pairs_with, stands_on, ways_on}
use Rattle.ft_operators.specs.Phrases.{PhraseState}
use Rattle.ft_operators.specs.Standing.{Shape, Frame, Standing, phrase_aims, one_aims, two_aims}

-- what two operands make; both hold hits at once where the ways of both are taken together
abbrev pub choice_shape : Shape → Shape → Shape
choice_shape left right = record {
  room = max left.room right.room;
  weight = left.weight + right.weight + 1;
  filters = max left.filters right.filters;
  hits = max left.hits right.hits;
}

abbrev pub both_shape : Shape → Shape → Shape
both_shape left right = record {
  room = left.room + right.room;
  weight = left.weight + right.weight + 1;
  filters = max left.filters right.filters;
  hits = max left.hits right.hits;
}

abbrev pub apart_shape : Shape → Shape → Shape
apart_shape left right = record {
  room = left.room + right.room;
  weight = left.weight + right.weight + 1;
  filters = left.filters;
  hits = left.hits;
}

-- a negated selection is asked of the filters round it alone
abbrev pub negated_shape : Shape → Shape
negated_shape operand = record { room = operand.room; weight = operand.weight + 1; filters = 0; hits = 0 }

abbrev pub filtered_shape : Shape → Shape
filtered_shape operand = record {
  room = operand.room;
  weight = operand.weight + 1;
  filters = operand.filters + 1;
  hits = operand.hits + operand.room;
}

abbrev pub phrase_shape : Shape
phrase_shape = record { room = 1; weight = 1; filters = 0; hits = 0 }

abbrev pub phrase_of : PhraseState → Standing
phrase_of state = record {
  aims = phrase_aims state.aims;
  shape = phrase_shape;
  operator = phrase state.hits;
  rest = map one_hit state.rest;
}

-- what is left of the left side, and then all of the right side
abbrev pub first_left : List Way → List Way → List Way
first_left [] all = []
first_left (a ∷ more) all = (a ∷ more) ++ all

abbrev pub choice_of : Course → Bool → Standing → Standing → Standing
choice_of course second left right = record {
  aims = two_aims either left.aims right.aims;
  shape = choice_shape left.shape right.shape;
  operator = either left.operator right.operator;
  rest = if second then right.rest else first_left left.rest (ways_on course right.operator);
}

-- the present way of the left side with what is left of the right side beside it, and then each further one with all of the right
-- side beside that
abbrev pub pairs_left : Course → Operator → List Way → List Way → List Way
pairs_left course right [] now = []
pairs_left course right (a ∷ more) [] = []
pairs_left course right (a ∷ more) (b ∷ rest) = map (two_ways a) (b ∷ rest) ++ flat_map (pairs_with course right) more

-- the right side is one on the course beside the present way of the left side
abbrev pub both_of : Course → Standing → Standing → Standing
both_of course left right = record {
  aims = two_aims together left.aims right.aims;
  shape = both_shape left.shape right.shape;
  operator = together left.operator right.operator;
  rest = pairs_left course right.operator left.rest right.rest;
}

-- before the first of the ways that the left side has left which have one of the right side beside them
abbrev pub paired : Course → Standing → Standing → Standing
paired course left right = record {
  aims = two_aims together left.aims right.aims;
  shape = both_shape left.shape right.shape;
  operator = together left.operator right.operator;
  rest = flat_map (pairs_with course right.operator) left.rest;
}

-- the present way of the left side, and then those further ones that stand out
abbrev pub apart_left : (Way → Bool) → List Way → List Way
apart_left stands [] = []
apart_left stands (a ∷ more) = a ∷ filter stands more

abbrev pub apart_of : Course → Standing → Standing → Standing
apart_of course left right = record {
  aims = two_aims apart left.aims right.aims;
  shape = apart_shape left.shape right.shape;
  operator = apart left.operator right.operator;
  rest = apart_left (stands_on course right.operator) left.rest;
}

-- before the first of the ways that the left side has left which stand out
abbrev pub apart_sifted : Course → Standing → Standing → Standing
apart_sifted course left right = record {
  aims = two_aims apart left.aims right.aims;
  shape = apart_shape left.shape right.shape;
  operator = apart left.operator right.operator;
  rest = filter (stands_on course right.operator) left.rest;
}

-- the one way of a negated selection, where it isn't passed. Where a walk through the operand stands doesn't matter
abbrev pub negation_of : Course → Bool → Standing → Standing
negation_of course there operand = record {
  aims = one_aims negated operand.aims;
  shape = negated_shape operand.shape;
  operator = negated operand.operator;
  rest = if there then turned_about (matches_of course.item operand.operator) ∷ [] else [];
}

-- the choices that are asked for of a filter that keeps a Match with these includes
abbrev pub choices_of : Filter → Course → List Hit → List (Option Window)
choices_of kind course includes = if passes kind includes course.item then asked_for course.windows (choices kind includes) else []

abbrev pub choices_at : Filter → Course → Way → List (Option Window)
choices_at kind course way = choices_of kind course (way_includes way)

-- how many choices the filter has in the first of some ways
abbrev pub count_now : Filter → Course → List Way → ℕ
count_now kind course [] = 0
count_now kind course (way ∷ rest) = length (choices_at kind course way)

-- the choices that are left in the present way, and then the ways through the filter of each further one
abbrev pub chosen_left : Filter → Way → List (Option Window) → List Way → List Way
chosen_left kind way [] later = []
chosen_left kind way (choice ∷ more) later = map (by_filter way kind) (choice ∷ more) ++ later

abbrev pub sieve_left : Filter → Course → ℕ → List Way → List Way
sieve_left kind course lead [] = []
sieve_left kind course lead (way ∷ more) = chosen_left kind way (drop lead (choices_at kind course way)) (flat_map (filtered_on kind course) more)

abbrev pub sieve_of : Course → Filter → ℕ → Standing → Standing
sieve_of course kind lead operand = record {
  aims = one_aims (λ operator. through_filter operator kind) operand.aims;
  shape = filtered_shape operand.shape;
  operator = through_filter operand.operator kind;
  rest = sieve_left kind course lead operand.rest;
}

-- before the first way through the filter of those that the operand has left
abbrev pub sifted : Course → Filter → Standing → Standing
sifted course kind operand = record {
  aims = one_aims (λ operator. through_filter operator kind) operand.aims;
  shape = filtered_shape operand.shape;
  operator = through_filter operand.operator kind;
  rest = flat_map (filtered_on kind course) operand.rest;
}

-- ---- what stays, whatever the place: an operator's frame, made of those of its operands

abbrev pub choice_frame : Frame → Frame → Frame
choice_frame left right = record {
  aims = two_aims either left.aims right.aims;
  shape = choice_shape left.shape right.shape;
  operator = either left.operator right.operator;
}

abbrev pub both_frame : Frame → Frame → Frame
both_frame left right = record {
  aims = two_aims together left.aims right.aims;
  shape = both_shape left.shape right.shape;
  operator = together left.operator right.operator;
}

abbrev pub apart_frame : Frame → Frame → Frame
apart_frame left right = record {
  aims = two_aims apart left.aims right.aims;
  shape = apart_shape left.shape right.shape;
  operator = apart left.operator right.operator;
}

abbrev pub negated_frame : Frame → Frame
negated_frame operand = record { aims = one_aims negated operand.aims; shape = negated_shape operand.shape; operator = negated operand.operator }

abbrev pub filtered_frame : Filter → Frame → Frame
filtered_frame kind operand = record {
  aims = one_aims (λ operator. through_filter operator kind) operand.aims;
  shape = filtered_shape operand.shape;
  operator = through_filter operand.operator kind;
}
