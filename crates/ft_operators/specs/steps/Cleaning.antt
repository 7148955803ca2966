-- Looking for a way that passes a test, and whether the present way is clean.
use Rattle.std.specs.Prelude.{◌≡◌, ℕ, ◌≤◌, Bool, true, ◌&&◌}
use Rattle.std.specs.List.{list_any}
use Rattle.ft_base.specs.Lists.{is_not_empty}
use Rattle.all_matches.specs.Chain.{kept_by}
use Rattle.all_matches.specs.Ways.{Operator, Way, is_plain}
use Rattle.ft_operators.specs.declared.course.Course.{Course}
use Rattle.ft_operators.specs.Course.{ways_on}
use Rattle.ft_base.specs.declared.unit.TextUnit.TheVariants.{Words}
use Rattle.ft_operators.specs.Extents.{extent_beside}
use Rattle.ft_operators.specs.steps.Measuring.{are_held, holds}
use Rattle.ft_operators.specs.declared.chain.Chain.{Chain}
use Rattle.ft_operators.specs.Chains.{clean_now, links_of, IsKept}
use Rattle.ft_operators.specs.Standing.{Standing, frame}

-- a walk that was gone through until a way passed the test; the answer is known where that is known of each way
pub record Searched (course : Course) (known : Type 0) (test : Way → Bool) (old now : Standing) (room new_room start end : ℕ) (answer : Bool) : Type 0 where
  pub same : frame now ≡ frame old
  pub found : known → answer ≡ list_any test (ways_on course old.operator)
  pub kept_room : room ≤ new_room
  pub grown : start ≤ end

-- what the loop keeps: what was passed over fails the test
pub record Searching (course : Course) (known : Type 0) (test : Way → Bool) (old now : Standing) (room new_room start end : ℕ) (there : Bool) : Type 0 where
  pub same : frame now ≡ frame old
  pub passed : known → list_any test now.rest ≡ list_any test (ways_on course old.operator)
  pub there_now : there ≡ is_not_empty now.rest
  pub kept_room : room ≤ new_room
  pub grown : start ≤ end

-- a walk that is at a way, and enough room for the hits and the filters that this is asked with
pub record MayAsk (now : Standing) (room more_filters more_hits : ℕ) : Type 0 where
  pub there : is_not_empty now.rest ≡ true
  pub fits : now.shape.room ≤ room
  pub filters : now.shape.filters ≤ more_filters
  pub hits : now.shape.hits ≤ more_hits

-- whether a course tells which ways of an operator are clean: negated selections stand neither inside one another nor inside mild
-- not, and what the course says of includes holds
abbrev pub tells : Course → Operator → Bool
tells course operator = is_plain operator && (are_held course.extents operator && holds course.beside (extent_beside Words operator))

-- a walk of which it was asked whether its present way is clean under a chain
pub record Asked (course : Course) (old now : Standing) (before after : Chain) (room new_room start end : ℕ) (answer : Bool) : Type 0 where
  pub same : now ≡ old
  pub clean : tells course old.operator ≡ true → answer ≡ clean_now (kept_by (links_of before)) old.rest
  pub kept : IsKept before after
  pub kept_room : room ≤ new_room
  pub grown : start ≤ end

-- what the loop over the ways keeps: those that were passed over are not clean
pub record Deciding (course : Course) (test : Way → Bool) (old now : Standing) (before after : Chain)
    (room new_room start end : ℕ) (there : Bool) : Type 0 where
  pub search : Searching course (tells course old.operator ≡ true) test old now room new_room start end there
  pub kept : IsKept before after

-- the answer of that loop
pub record Decided (course : Course) (test : Way → Bool) (old now : Standing) (before after : Chain)
    (room new_room start end : ℕ) (answer : Bool) : Type 0 where
  pub search : Searched course (tells course old.operator ≡ true) test old now room new_room start end answer
  pub kept : IsKept before after
