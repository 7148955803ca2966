-- The ways of the left side of an And, one after the other, until one has a way of the right side beside it.
use Rattle.std.specs.Prelude.{◌≡◌, ℕ, ◌≤◌, Bool, flat_map}
use Rattle.ft_base.specs.Lists.{is_not_empty}
use Rattle.ft_operators.specs.declared.course.Course.{Course}
use Rattle.ft_operators.specs.Course.{pairs_with}
use Rattle.ft_operators.specs.Standing.{Standing, frame}

-- what the loop keeps: what was passed over has no way of the right side beside it
pub record Pairing (course : Course) (left right left_now right_now : Standing) (room new_room start end : ℕ) (there : Bool) : Type 0 where
  pub passed : flat_map (pairs_with course right.operator) left_now.rest ≡ flat_map (pairs_with course right.operator) left.rest
  pub same_left : frame left_now ≡ frame left
  pub same_right : frame right_now ≡ frame right
  pub there_now : there ≡ is_not_empty left_now.rest
  pub kept_room : room ≤ new_room
  pub grown : start ≤ end
