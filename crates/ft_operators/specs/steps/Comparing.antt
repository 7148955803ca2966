-- Going through ways for the least includes of those that pass a test.
use Rattle.std.specs.Prelude.{◌≡◌, ℕ, ◌≤◌, Bool, true, false, if◌then◌else◌, List, [], ◌∷◌, Option, Some, None}
use Rattle.ft_base.specs.Lists.{is_not_empty}
use Rattle.ft_base.specs.declared.hit.Hit.{Hit}
use Rattle.all_matches.specs.Ways.{Way, way_includes}
use Rattle.best_hits.specs.Least.{comes_before}
use Rattle.ft_operators.specs.declared.course.Course.{Course}
use Rattle.ft_operators.specs.declared.chain.Chain.{Chain}
use Rattle.ft_operators.specs.Chains.{IsKept}
use Rattle.ft_operators.specs.Course.{ways_on}
use Rattle.ft_operators.specs.Standing.{Standing, frame}
use Rattle.ft_operators.specs.steps.Cleaning.{tells}
use Rattle.ft_operators.specs.steps.Ordering.{rise}

-- the least so far, if there is one
abbrev pub so_far : Bool → List Hit → Option (List Hit)
so_far false hits = None
so_far true hits = Some hits

-- with one more
abbrev pub lesser : Option (List Hit) → List Hit → List Hit
lesser None hits = hits
lesser (Some least) hits = if comes_before hits least then hits else least

-- with a way, if it passes the test
abbrev pub lesser_where : (Way → Bool) → Option (List Hit) → Way → Option (List Hit)
lesser_where test least way = if test way then Some (lesser least (way_includes way)) else least

-- with the first of some ways, and with each of them
abbrev pub lesser_now : (Way → Bool) → Option (List Hit) → List Way → Option (List Hit)
lesser_now test least [] = least
lesser_now test least (way ∷ rest) = lesser_where test least way

abbrev pub least_after : (Way → Bool) → Option (List Hit) → List Way → Option (List Hit)
least_after test least [] = least
least_after test least (way ∷ rest) = least_after test (lesser_where test least way) rest

-- a walk that stands where it stood, after its present way was looked at
pub record Looked (old now : Standing) (before after : Chain) (room new_room start end : ℕ) : Type 0 where
  pub same : now ≡ old
  pub kept : IsKept before after
  pub kept_room : room ≤ new_room
  pub grown : start ≤ end

-- the least includes so far, after the first of some ways
pub record Compared (known : Type 0) (test : Way → Bool) (ways : List Way) (any : Bool) (least : List Hit) (any_now : Bool) (least_now : List Hit) : Type 0 where
  pub now : known → so_far any_now least_now ≡ lesser_now test (so_far any least) ways
  pub none : any_now ≡ false → (any ≡ false) × (least_now ≡ least)

-- a walk that was gone through
pub record GoneThrough (old now : Standing) (before after : Chain) (room new_room start end : ℕ) : Type 0 where
  pub same : frame now ≡ frame old
  pub kept : IsKept before after
  pub kept_room : room ≤ new_room
  pub grown : start ≤ end

-- what the loop keeps: what is kept and the ways that are left have the least of all ways. Where the ways come in order nothing is kept yet,
-- since the first that is has the least
pub record Comparing (course : Course) (test : Way → Bool) (old now : Standing) (before after : Chain) (room new_room start end : ℕ)
    (in_order there any : Bool) (least : List Hit) : Type 0 where
  pub walk : GoneThrough old now before after room new_room start end
  pub there_now : there ≡ is_not_empty now.rest
  pub passed : tells course old.operator ≡ true → least_after test (so_far any least) now.rest ≡ least_after test None (ways_on course old.operator)
  pub none : any ≡ false → least ≡ []
  pub waits : in_order ≡ true → any ≡ false
  pub rising : in_order ≡ true → rise now.rest ≡ true
