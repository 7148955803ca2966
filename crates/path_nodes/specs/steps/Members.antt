-- Lists of elements by what is in them.
use Rattle.std.specs.Prelude.{◌≡◌, ◌≤◌, ℕ, Bool, List, sum_by}
use Rattle.std.specs.List.{list_any}
use Rattle.path_meaning.specs.Elements.{Element}

-- Two lists have the same members: a test is true of some of the one where it is true of some of the other.
abbrev pub HaveSame : List Element → List Element → Type 0
HaveSame xs ys = (p : Element → Bool) → list_any p xs ≡ list_any p ys

-- The one list has no element more often than the other.
abbrev pub AreAmong : List Element → List Element → Type 0
AreAmong xs ys = (count : Element → ℕ) → sum_by count xs ≤ sum_by count ys
