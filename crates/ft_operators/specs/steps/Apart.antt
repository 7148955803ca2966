-- Mild not, one way of the right side after the other.
use Rattle.std.specs.Prelude.{◌≡◌, ℕ, ◌+◌, ◌≤◌, Bool, true, false, ◌&&◌, ◌||◌, List, filter, fold}
use Rattle.ft_base.specs.Lists.{is_not_empty}
use Rattle.ft_base.specs.declared.hit.Hit.{Hit}
use Rattle.all_matches.specs.MildNot.{stands_out}
use Rattle.all_matches.specs.Ways.{Way, way_includes}
use Rattle.ft_operators.specs.declared.course.Course.{Course}
use Rattle.ft_operators.specs.Course.{passes_out, stands_on, ways_on}
use Rattle.ft_operators.specs.declared.standing_out.Tried.{Tried}
use Rattle.ft_operators.specs.Standing.{Standing, frame, includes_now}

-- what one more way of the right side makes of those before it
abbrev pub with_includes : List Hit → List Hit → Tried → Tried
with_includes left right tried = record { some = tried.some || is_not_empty right; all = tried.all && stands_out left right }

abbrev pub none_tried : Tried
none_tried = record { some = false; all = true }

-- what some ways of the right side make of those before them
abbrev pub tried_ways : List Hit → Tried → List Way → Tried
tried_ways left tried ways = fold (λ so_far way. with_includes left (way_includes way) so_far) tried ways

-- a way of the left side that was tried against those of the right side
pub record IsTried (course : Course) (left right left_now right_now : Standing) (room new_room start end : ℕ) (answer : Bool) : Type 0 where
  pub same_left : left_now ≡ left
  pub same_right : frame right_now ≡ frame right
  pub tried : answer ≡ passes_out course right.operator (includes_now left.rest)
  pub kept_room : room ≤ new_room
  pub grown : start ≤ end

-- walks of both sides that are at ways, and enough room for the hits of both
pub record MayTry (left right : Standing) (room : ℕ) : Type 0 where
  pub left_there : is_not_empty left.rest ≡ true
  pub right_there : is_not_empty right.rest ≡ true
  pub fits : left.shape.room + right.shape.room ≤ room

-- what the loop over the right side keeps, on a course: the ways that are left make of those tried what all make of none
pub record Trying (course : Course) (left right left_now right_now : Standing) (room new_room start end : ℕ) (so_far : Tried) (there : Bool) : Type 0 where
  pub same_left : left_now ≡ left
  pub same_right : frame right_now ≡ frame right
  pub tried : tried_ways (includes_now left.rest) so_far right_now.rest ≡ tried_ways (includes_now left.rest) none_tried (ways_on course right.operator)
  pub there_now : there ≡ is_not_empty right_now.rest
  pub kept_room : room ≤ new_room
  pub grown : start ≤ end

-- what the loop over the left side keeps: what was passed over doesn't stand out
pub record Sifting (course : Course) (left right left_now right_now : Standing) (room new_room start end : ℕ) (there : Bool) : Type 0 where
  pub passed : filter (stands_on course right.operator) left_now.rest ≡ filter (stands_on course right.operator) left.rest
  pub same_left : frame left_now ≡ frame left
  pub same_right : frame right_now ≡ frame right
  pub there_now : there ≡ is_not_empty left_now.rest
  pub kept_room : room ≤ new_room
  pub grown : start ≤ end
