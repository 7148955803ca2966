-- The first of places that may be there or not.
use Rattle.std.specs.Prelude.{ℕ, List, min, fold, Option, Some, None}

-- the one before the other; where one of them isn't there, the other
abbrev pub sooner : Option ℕ → Option ℕ → Option ℕ
sooner None second = second
sooner (Some a) None = Some a
sooner (Some a) (Some b) = Some (min a b)

-- the first of all; there is none where none of them is there
abbrev pub soonest : List (Option ℕ) → Option ℕ
soonest places = fold sooner None places
