-- What a move of a walk does, and what it asks for.
use Rattle.std.specs.Prelude.{◌≡◌, ℕ, ◌+◌, ◌≤◌, Bool, true, List, ◌++◌, length, take}
use Rattle.ft_base.specs.Lists.{is_not_empty}
use Rattle.ft_base.specs.declared.filter.Filter.{Filter}
use Rattle.ft_base.specs.declared.hit.Hit.{Hit}
use Rattle.ft_base.specs.declared.span.Span.{Span}
use Rattle.ft_operators.specs.declared.course.Course.{Course}
use Rattle.ft_operators.specs.Standing.{Frame, Shape, Standing, aimed, includes_now}
use Rattle.ft_operators.specs.steps.Forms.{sifted}

-- a walk that moved to where it was to go, with no less room for hits and no fewer steps
pub record Moved (wanted now : Standing) (room new_room start end : ℕ) (answer : Bool) : Type 0 where
  pub stand : now ≡ wanted
  pub there : answer ≡ is_not_empty now.rest
  pub kept_room : room ≤ new_room
  pub grown : start ≤ end

-- a walk that has a way, and enough room for its hits
pub record MayGoOn (now : Standing) (room : ℕ) : Type 0 where
  pub there : is_not_empty now.rest ≡ true
  pub fits : now.shape.room ≤ room

-- the includes of the present way were put after the hits that are held, if there is room for them
pub record Gathered (now : Standing) (room new_room : ℕ) (old new : List Hit) : Type 0 where
  pub from : length old ≤ length new
  pub kept_room : room ≤ new_room
  pub few : is_not_empty now.rest ≡ true → length (includes_now now.rest) ≤ now.shape.room
  pub hits : is_not_empty now.rest ≡ true → length old + now.shape.room ≤ room → new ≡ old ++ includes_now now.rest

-- the hits from a place on gave way to others, if there is room for these
pub record Replaced (place : ℕ) (others : List Hit) (room new_room : ℕ) (old new : List Hit) : Type 0 where
  pub from : place ≤ length new
  pub kept_room : room ≤ new_room
  pub hits : place + length others ≤ room → new ≡ take place old ++ others

-- what the loop that looks for a way through a filter keeps: what was passed over has none
pub record Settling (course : Course) (wanted : Filter) (start now : Standing) (room new_room begin end : ℕ)
    (answer : Bool) (kept : Filter) (used : ℕ) : Type 0 where
  pub passed : sifted course wanted now ≡ sifted course wanted start
  pub same_shape : now.shape ≡ start.shape
  pub there : answer ≡ is_not_empty now.rest
  pub kept_room : room ≤ new_room
  pub grown : begin ≤ end
  pub same_kind : kept ≡ wanted
  pub unused : used ≡ 0

-- an operator that was aimed at a span of a document, in no fewer steps
pub record IsAimed (doc : ℕ) (span : Span) (old new : Frame) (start end : ℕ) : Type 0 where
  pub framed : new ≡ aimed doc span old
  pub grown : start ≤ end

-- two operators that were aimed so
pub record AreAimed (doc : ℕ) (span : Span) (left left_new right right_new : Frame) (start end : ℕ) : Type 0 where
  pub first : left_new ≡ aimed doc span left
  pub second : right_new ≡ aimed doc span right
  pub grown : start ≤ end

-- the includes of the present way are held, where the walk is at one
pub record IsHeld (there : Bool) (now : Standing) (room new_room : ℕ) (new : List Hit) : Type 0 where
  pub kept_room : room ≤ new_room
  pub hits : there ≡ true → is_not_empty now.rest ≡ true → now.shape.room ≤ room → new ≡ includes_now now.rest

-- a node that was built with this frame and this shape
pub record IsBuilt (frame_now : Frame) (shape_now : Shape) (frame_wanted : Frame) (shape_wanted : Shape) : Type 0 where
  pub framed : frame_now ≡ frame_wanted
  pub shaped : shape_now ≡ shape_wanted
