-- Ascending lists of numbers.
use Rattle.std.specs.Prelude.{ℕ, Bool, true, ◌&&◌, nat_lt, List, [], ◌∷◌, Option, Some, None}

-- each number is greater than the one before it
abbrev pub is_ascending : List ℕ → Bool
is_ascending [] = true
is_ascending (x ∷ []) = true
is_ascending (x ∷ y ∷ rest) = nat_lt x y && is_ascending (y ∷ rest)

abbrev pub last_place : List ℕ → Option ℕ
last_place [] = None
last_place (x ∷ []) = Some x
last_place (x ∷ y ∷ rest) = last_place (y ∷ rest)
