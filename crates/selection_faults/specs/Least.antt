-- The least of places, and what stands at it.
use Rattle.std.specs.Prelude.{ℕ, nat_le, if◌then◌else◌, List, [], ◌∷◌, Option, Some, None}

-- of two, the one at the lesser place; at one place the first
abbrev pub earlier : {A : Type 0} → (A → ℕ) → Option A → Option A → Option A
earlier place None second = second
earlier place (Some first) None = Some first
earlier place (Some first) (Some second) = if nat_le (place first) (place second) then Some first else Some second

-- the one at the least place; at one place the first
abbrev pub least : {A : Type 0} → (A → ℕ) → List A → Option A
least place [] = None
least place (first ∷ rest) = earlier place (Some first) (least place rest)

abbrev pub itself : ℕ → ℕ
itself at = at

abbrev pub least_place : List ℕ → Option ℕ
least_place places = least itself places
